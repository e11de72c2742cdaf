use Rattle.std.proofs.Common.{◌≡◌, ℕ, Bool, cond, Option, Some, List, [], sym, ap, ◌∙◌}
use Rattle.std.specs.Option.{is_some, unwrap_or}
use Rattle.std.proofs.lemmas.Result.{on_ok_weaker, on_err_weaker}
use Rattle.as_base.specs.declared.stream.StreamId.{StreamId}
use Rattle.shared_join.specs.declared.pair.Pair.{Pair}
use Rattle.shared_join.specs.Joins.{met_in, is_name}
use Rattle.shared_join.specs.Window.{start_of}
use Rattle.shared_join.proofs.JoinLaws.{none-some, some-either, met-named, by_either}
use Rattle.shared_join.proofs.joins.Joins.meet.Goals as goal
use Rattle.shared_join.proofs.joins.Joins.meet.Goals.{After-keep}

pub keep-requires : goal.keep-requires
keep-requires c =
    none-some (met_in c.args.self.now c.stream-s.result c.start-first.result c.stream-t.result c.start-second.result) (sym c.have_met.ensures ∙ c.if-have_met.false)

-- the name of the two slices
abbrev named : After-keep → StreamId → ℕ → StreamId → ℕ → Bool
named c = is_name c.args.a.now.stream (start_of c.args.a.now c.args.i) c.args.b.now.stream (start_of c.args.b.now c.args.j)

more : (c : After-keep) → ((u : StreamId) (e : ℕ) (v : StreamId) (f : ℕ) → met_in c.keep.new.self u e v f
    ≡ cond (is_name c.stream-s.result c.start-first.result c.stream-t.result c.start-second.result u e v f) (Some c.in_ok-pairs.pairs) (met_in c.args.self.now u e v f))
    → (u : StreamId) (e : ℕ) (v : StreamId) (f : ℕ) → met_in c.keep.new.self u e v f ≡ cond (named c u e v f) (Some c.in_ok-pairs.pairs) (met_in c.args.self.now u e v f)
more c =
    met-named c.stream-s.result c.args.a.now.stream c.start-first.result (start_of c.args.a.now c.args.i) c.stream-t.result c.args.b.now.stream c.start-second.result (start_of c.args.b.now c.args.j)
    c.in_ok-pairs.pairs (met_in c.args.self.now) (met_in c.keep.new.self) c.stream-s.ensures c.start-first.ensures c.stream-t.ensures c.start-second.ensures

pub returns-clause-met : goal.returns-clause-met
returns-clause-met c =
    on_ok_weaker c.keep.result (λ told s x t y. ap is_some (more c told s x t y) ∙ some-either (named c s x t y) c.in_ok-pairs.pairs (met_in c.args.self.now s x t y)) c.keep.ensures.ok

pub returns-clause-others : goal.returns-clause-others
returns-clause-others c = λ s x t y other.
    by_either c.keep.result
    (λ told. ap (λ (o : Option (List Pair)). unwrap_or o []) (more c told s x t y ∙ ap (λ b. cond b (Some c.in_ok-pairs.pairs) (met_in c.args.self.now s x t y)) other))
    (λ same. ap (λ (o : Option (List Pair)). unwrap_or o []) (same s x t y)) c.keep.ensures.ok c.keep.ensures.err

pub returns-clause-met_err : goal.returns-clause-met_err
returns-clause-met_err c = on_err_weaker c.keep.result (λ same s x t y. ap is_some (same s x t y)) c.keep.ensures.err

pub returns-clause-kept_err : goal.returns-clause-kept_err
returns-clause-kept_err c = on_err_weaker c.keep.result (λ same s x t y. ap (λ (o : Option (List Pair)). unwrap_or o []) (same s x t y)) c.keep.ensures.err
