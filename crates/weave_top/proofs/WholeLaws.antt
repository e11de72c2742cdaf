-- Where a last load of each feeder was taken, all that the five offered was taken, and each made all its loads.
use Rattle.std.proofs.Common.{◌≡◌, ℕ, zero, suc, ◌<◌, ◌+◌, Bool, true, false, eqb, cond, ◌&&◌, ◌||◌, List, [], ◌∷◌, length, take, map, refl, sym, ap, ◌∙◌, subst, arith}
use Rattle.std.specs.List.{list_any, AllByRecursion}
use Rattle.as_outside.specs.Sources.{SourceSeen, Pulls}
use Rattle.as_outside.specs.declared.source.Source as source
use Rattle.inbox.specs.declared.load.Load.{Load}
use Rattle.inbox.specs.declared.passes.FeedPass.{FeedPass}
use Rattle.inbox.specs.declared.passes.Closed.{Closed}
use Rattle.inbox.specs.Roles.{from, AllFed}
use Rattle.inbox.specs.Sound.{IsSound}
use Rattle.inbox.specs.Passes.{feeder_in, offered, offered_in_all, closed_offered, closed_taken, five_times}
use Rattle.inbox.proofs.Closing.{all_sizes}
use Rattle.feeder.specs.declared.maker.Maker.{Maker}
use Rattle.feeder.specs.declared.feeder.Feeder.{Feeder}
use Rattle.feeder.specs.Maker.{HasMade}
use Rattle.feeder.specs.Going.{IsLater}
use Rattle.feeder.specs.Loads.{is_last, has_last, AllEnded, lines_in, ending_in}
use Rattle.feeder.proofs.EndLaws.{IsDone, all_taken, lines_all, ending_all}
use Rattle.team.specs.declared.team.Five.{Five}
use Rattle.team.specs.Team.{all_of, AreLater}
use Rattle.weave_top.specs.declared.sources.Sources.{Sources}
use Rattle.weave_top.specs.Sources.{all_sources}
use Rattle.weave_top.specs.Loom.{IsFreshMaker}
use Rattle.weave_top.specs.Fed.{HasFed, WentThrough}

-- of each feeder the first of what it offered was taken
abbrev pub AreFronts : Closed → Type 0
AreFronts closed =
    (i : ℕ) → 0 < i → i < 6 → from i (closed_taken closed) ≡ take (length (from i (closed_taken closed))) (closed_offered closed i)

-- a feeder's last load among the parcels is one among its loads
pub has_last_from : (i : ℕ) (t : List (ℕ × Load)) → has_last i t ≡ list_any is_last (from i t)
has_last_from i [] = refl
has_last_from i (p ∷ t) = by (eqb p.0 i) (has_last_from i t)
  where
    by : (b : Bool) → has_last i t ≡ list_any is_last (from i t) →
        ((b && is_last p.1) || has_last i t) ≡ list_any is_last (cond b (p.1 ∷ from i t) (from i t))
    by true e = ap (λ x. is_last p.1 || x) e
    by false e = e

-- what is known of a feeder before and after, which has offered these loads
pub record WasFeeder {F : Type 0} (s : source.Ghosts F) (limit : ℕ) (old new : Feeder F) (mine : List Load) : Type 0 where
  pub later : IsLater s old new
  pub fresh : IsFreshMaker limit old.maker
  pub none : offered old.pass ≡ []
  pub told : offered new.pass ≡ mine

-- all loads of these bytes were offered
all_fed : (limit : ℕ) (old new : SourceSeen) (given : List ℕ) (failed : ℕ) (mine : List Load) → Pulls old new given failed →
    IsDone limit given failed new.left mine → HasFed limit old new mine
all_fed limit old new given failed mine pulls done =
    let its : lines_in mine ≡ done.its = ap lines_in done.loads ∙ lines_all done.its done.last in
    record {
      end = done.last;
      given = given;
      pulls = subst (Pulls old new given) done.faults pulls;
      ended = rw its done.end;
      all = rw its done.loads;
      told = ap ending_in done.loads ∙ ending_all done.its done.last;
    }

-- the first of its loads, one of which is a last load, are all that it offered, and it offered all loads
one_fed : {F : Type 0} (s : source.Ghosts F) (limit : ℕ) (old new : Feeder F) (front mine : List Load) →
    WasFeeder s limit old new mine → front ≡ take (length front) mine → list_any is_last front ≡ true →
    HasFed limit (s.seen old.source) (s.seen new.source) mine × (front ≡ mine)
one_fed s limit old new front mine was prefix has =
    let before : HasMade limit [] 0 (s.seen old.source).left old.maker (offered old.pass) =
    subst (HasMade limit [] 0 (s.seen old.source).left old.maker) (sym was.none) (was.fresh (s.seen old.source).left) in
    let goes = was.later.1 limit [] 0 before in
    let failed = 0 + goes.faults in
    let made = subst (HasMade limit goes.more failed (s.seen new.source).left new.maker) was.told goes.made in
    let whole = all_taken front limit goes.more failed (s.seen new.source).left new.maker mine made prefix has in
    let pulls = subst (Pulls (s.seen old.source) (s.seen new.source) goes.more) (omega arith) goes.pulls in
    (all_fed limit (s.seen old.source) (s.seen new.source) goes.more failed mine pulls whole.1, whole.0)

-- the same of the feeder with this number, by the closed inbox
numbered_fed : {F : Type 0} (s : source.Ghosts F) (limit n : ℕ) (old new : Feeder F) (closed : Closed) →
    IsLater s old new → IsFreshMaker limit old.maker → offered old.pass ≡ [] → feeder_in old.pass ≡ n →
    offered new.pass ≡ closed_offered closed (feeder_in new.pass) →
    from n (closed_taken closed) ≡ take (length (from n (closed_taken closed))) (closed_offered closed n) →
    has_last n (closed_taken closed) ≡ true →
    HasFed limit (s.seen old.source) (s.seen new.source) (closed_offered closed n)
    × (from n (closed_taken closed) ≡ closed_offered closed n)
numbered_fed s limit n old new closed later fresh none number told prefix has =
    one_fed s limit old new (from n (closed_taken closed)) (closed_offered closed n)
    (record { later = later; fresh = fresh; none = none; told = told ∙ ap (closed_offered closed) (later.0.1 ∙ number) })
    prefix (sym (has_last_from n (closed_taken closed)) ∙ has)

-- equal lists of five have equal elements
pub five_each : {A : Type 0} {a b c d e a' b' c' d' e' : A} → a ∷ b ∷ c ∷ d ∷ e ∷ [] ≡ a' ∷ b' ∷ c' ∷ d' ∷ e' ∷ [] →
    (a ≡ a') × (b ≡ b') × (c ≡ c') × (d ≡ d') × (e ≡ e')
five_each is = (cc is, cc is, cc is, cc is, cc is)

-- what holds of each of the five feeders
each_feeder : (P : ℕ → Type 0) → P 1 → P 2 → P 3 → P 4 → P 5 → (i : ℕ) → 0 < i → i < 6 → P i
each_feeder P a b c d e zero low high = absurd (omega arith)
each_feeder P a b c d e (suc zero) low high = a
each_feeder P a b c d e (suc (suc zero)) low high = b
each_feeder P a b c d e (suc (suc (suc zero))) low high = c
each_feeder P a b c d e (suc (suc (suc (suc zero)))) low high = d
each_feeder P a b c d e (suc (suc (suc (suc (suc zero))))) low high = e
each_feeder P a b c d e (suc (suc (suc (suc (suc (suc i)))))) low high = absurd (omega arith)

-- What a closed inbox tells of the feeders that were before and after, from passes to passes.
pub record WasClosed {F : Type 0} (s : source.Ghosts F) (limit : ℕ) (first last : Sources F) (before after : Five F) (makers : List Maker)
    (passes back : List FeedPass) (closed : Closed) : Type 0 where
  pub sources_in : map (λ f. f.source) (all_of before) ≡ all_sources first
  pub sources_out : all_sources last ≡ map (λ f. f.source) (all_of after)
  pub later : AreLater s (all_of before) (all_of after)
  pub makers_in : map (λ f. f.maker) (all_of before) ≡ makers
  pub fresh : AllByRecursion (IsFreshMaker limit) makers
  pub passes_in : map (λ f. f.pass) (all_of before) ≡ passes
  pub none : map offered passes ≡ five_times []
  pub numbers : map feeder_in passes ≡ 1 ∷ 2 ∷ 3 ∷ 4 ∷ 5 ∷ []
  pub passes_out : back ≡ map (λ f. f.pass) (all_of after)
  pub told : map offered back ≡ map (λ p. closed_offered closed (feeder_in p)) back
  pub sound : AllFed IsSound (closed_taken closed)
  pub fronts : AreFronts closed
  pub ended : AllEnded (closed_taken closed)
  pub left : offered_in_all closed ≡ length (closed_taken closed) + closed.left

went_by : {F : Type 0} (s : source.Ghosts F) (limit : ℕ) (first last : Sources F) (before after : Five F) (makers : List Maker)
    (passes back : List FeedPass) (closed : Closed) →
    WasClosed s limit first last before after makers passes back closed →
    WentThrough limit (map s.seen (map (λ f. f.source) (all_of before))) (map s.seen (map (λ f. f.source) (all_of after))) closed
went_by s limit first last before after makers passes back closed c =
    let fresh : AllByRecursion (IsFreshMaker limit) (map (λ f. f.maker) (all_of before)) =
    subst (AllByRecursion (IsFreshMaker limit)) (sym c.makers_in) c.fresh in
    let none = five_each (ap (map offered) c.passes_in ∙ c.none) in
    let number = five_each (ap (map feeder_in) c.passes_in ∙ c.numbers) in
    let told = five_each (subst (λ l. map offered l ≡ map (λ p. closed_offered closed (feeder_in p)) l) c.passes_out c.told) in
    let one = numbered_fed s limit 1 before.one after.one closed c.later.0 fresh.0 none.0 number.0 told.0
    (c.fronts 1 (omega arith) (omega arith)) (c.ended 1 (omega arith) (omega arith)) in
    let two = numbered_fed s limit 2 before.two after.two closed c.later.1.0 fresh.1.0 none.1 number.1 told.1
    (c.fronts 2 (omega arith) (omega arith)) (c.ended 2 (omega arith) (omega arith)) in
    let three = numbered_fed s limit 3 before.three after.three closed c.later.1.1.0 fresh.1.1.0 none.2 number.2 told.2
    (c.fronts 3 (omega arith) (omega arith)) (c.ended 3 (omega arith) (omega arith)) in
    let four = numbered_fed s limit 4 before.four after.four closed c.later.1.1.1.0 fresh.1.1.1.0 none.3 number.3 told.3
    (c.fronts 4 (omega arith) (omega arith)) (c.ended 4 (omega arith) (omega arith)) in
    let five = numbered_fed s limit 5 before.five after.five closed c.later.1.1.1.1.0 fresh.1.1.1.1.0 none.4 number.4 told.4
    (c.fronts 5 (omega arith) (omega arith)) (c.ended 5 (omega arith) (omega arith)) in
    let sizes = all_sizes IsSound (closed_taken closed) c.sound in
    let a = ap length one.1 in let b = ap length two.1 in let d = ap length three.1 in
    let e = ap length four.1 in let f = ap length five.1 in
    record {
      none_left = omega (arith, c.left, sizes, a, b, d, e, f);
      fed = (one.0, (two.0, (three.0, (four.0, (five.0, tt)))));
      taken = each_feeder (λ i. from i (closed_taken closed) ≡ closed_offered closed i) one.1 two.1 three.1 four.1 five.1;
    }

-- all that the five offered went through
pub went_through : {F : Type 0} (s : source.Ghosts F) (limit : ℕ) (first last : Sources F) (before after : Five F) (makers : List Maker)
    (passes back : List FeedPass) (closed : Closed) →
    WasClosed s limit first last before after makers passes back closed →
    WentThrough limit (map s.seen (all_sources first)) (map s.seen (all_sources last)) closed
went_through s limit first last before after makers passes back closed c =
    subst (λ l. WentThrough limit (map s.seen l) (map s.seen (all_sources last)) closed) c.sources_in
    (subst (λ l. WentThrough limit (map s.seen (map (λ f. f.source) (all_of before))) (map s.seen l) closed) (sym c.sources_out)
    (went_by s limit first last before after makers passes back closed c))
