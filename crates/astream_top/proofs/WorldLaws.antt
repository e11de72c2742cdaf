-- What two runs make of the outputs of alike queries.
use Rattle.std.proofs.Common.{ℕ, ◌≡◌, ◌+◌, eqb, Bool, true, false, cond, List, [], ◌∷◌, ◌++◌, map, length, refl, sym, ap, ap₂, subst, ◌∙◌, arith}
use Rattle.std.specs.List.{filter}
use Rattle.std.proofs.lemmas.List.Sums.{sum_by-cons}
use Rattle.as_base.specs.Times.{times}
use Rattle.as_base.specs.declared.config.Config.{Config}
use Rattle.as_base.specs.declared.item.Item.{Item}
use Rattle.as_outside.specs.declared.entry.Entry.{Entry}
use Rattle.as_outside.specs.declared.report.Status.{Status}
use Rattle.as_outside.specs.declared.report.Status.TheVariants as status
use Rattle.as_outside.specs.Entries.{BeforeEach}
use Rattle.as_outside.specs.Log.{is_pull, pulled}
use Rattle.as_outside.specs.Outputs.{AreOutputs}
use Rattle.as_lineform.specs.Lines.{lines, items}
use Rattle.views.specs.Query.{Query}
use Rattle.views.specs.View.{View}
use Rattle.views.specs.Alike.{share_of, share_of_number, AreAlike}
use Rattle.row_text.proofs.TextLaws.{text_of-alike}
use Rattle.session.specs.Book.{numbers}
use Rattle.session.specs.View.{view, text_of}
use Rattle.session.specs.Shut.{shut}
use Rattle.astream_top.specs.Prompt.{IsDueSoFar, Prompt}
use Rattle.astream_top.specs.Ends.{StandsBy, IsEnded}
use Rattle.astream_top.specs.Worlds.{output, IsUnbroken, IsNotAmong, TakesAll, view_in_the_end, view_so_far, StandBeforePull}

-- a number stands as often among those of the queries as a view has queries of it
times-shares : (v : View) (n : ℕ) → times n (map (λ (q : Query). q.n) v.queries) ≡ length (share_of_number v n)
times-shares v n = all v.queries
  where
    of_n : List Query → List Query
    of_n qs = filter (λ (q : Query). eqb q.n n) qs

    one : (b : Bool) (q : Query) (qs : List Query) → length (map (share_of v) (cond b (q ∷ qs) qs)) ≡ cond b 1 0 + length (map (share_of v) qs)
    one true q qs = omega arith
    one false q qs = omega arith

    all : (qs : List Query) → times n (map (λ (q : Query). q.n) qs) ≡ length (map (share_of v) (of_n qs))
    all [] = refl
    all (q ∷ qs) = omega (arith, sum_by-cons (λ m. cond (eqb m n) 1 0) q.n (map (λ (q : Query). q.n) qs), one (eqb q.n n) q (of_n qs), all qs)

-- what holds before each entry that is picked holds before this one
BeforeEach-at : (is_picked : Entry → Bool) (P : List Entry → Type 0) (before : List Entry) (e : Entry) (after : List Entry) → is_picked e ≡ true
    → BeforeEach is_picked P (before ++ e ∷ after) → P before
BeforeEach-at is_picked P [] e after picked h = h.0 picked
BeforeEach-at is_picked P (x ∷ before) e after picked h = BeforeEach-at is_picked (λ earlier. P (x ∷ earlier)) before e after picked h.1

-- the outputs before a pull are those of the lines pulled so far
due_before : (c : Config) (before calls : List Entry) → Prompt c calls → StandBeforePull before calls → IsDueSoFar c before
due_before c before calls prompt at =
    BeforeEach-at is_pull (IsDueSoFar c) before at.pull at.after at.pulls (subst (BeforeEach is_pull (IsDueSoFar c)) at.all prompt)

-- the outputs of a run that took all of its input are those of the ended streams
outputs_in_the_end : (c : Config) (limit : ℕ) (s : Status) (count : ℕ) (broken : List ℕ) (calls : List Entry) → StandsBy c limit s count broken calls → TakesAll s
    → AreOutputs (numbers c (shut c (items (pulled calls)))) (text_of c (shut c (items (pulled calls)))) calls
outputs_in_the_end c limit status.Done count broken calls stands all = stands.1.outputs
outputs_in_the_end c limit status.OutputBroken count broken calls stands all = stands.1.outputs
outputs_in_the_end c limit _ count broken calls stands all = absurd all

-- the outputs of alike queries that were served to these items
same_outputs : (c d : Config) (h k : List Item) (calls others : List Entry) (n m : ℕ) → AreOutputs (numbers c h) (text_of c h) calls → AreOutputs (numbers d k) (text_of d k) others
    → IsUnbroken n calls → IsUnbroken m others → AreAlike (view c h) n (view d k) m → output n calls ≡ output m others
same_outputs c d h k calls others n m mine yours whole sound alike =
    ap₂ (λ begun bytes. record { begun = begun; bytes = bytes })
    (mine.begun n ∙ times-shares (view c h) n ∙ ap length alike ∙ sym (times-shares (view d k) m) ∙ sym (yours.begun m))
    (mine.whole n whole ∙ text_of-alike (view c h) (view d k) n m alike ∙ sym (yours.whole m sound))

pub same_in_the_end : (c d : Config) (limit most : ℕ) (s t : Status) (count many : ℕ) (broken lost : List ℕ) (calls others : List Entry) (n m : ℕ)
    → IsEnded c limit s count broken calls → IsEnded d most t many lost others → TakesAll s → TakesAll t → IsNotAmong n broken → IsNotAmong m lost
    → AreAlike (view_in_the_end c calls) n (view_in_the_end d others) m → output n calls ≡ output m others
same_in_the_end c d limit most s t count many broken lost calls others n m mine yours all every whole sound alike =
    same_outputs c d (shut c (items (pulled calls))) (shut d (items (pulled others))) calls others n m
    (outputs_in_the_end c limit s count broken calls mine.stands all) (outputs_in_the_end d most t many lost others yours.stands every)
    (sym (mine.outputs_broken.listed n) ∙ whole) (sym (yours.outputs_broken.listed m) ∙ sound) alike

pub same_so_far : (c d : Config) (calls others before earlier : List Entry) (n m : ℕ) → Prompt c calls → Prompt d others → StandBeforePull before calls → StandBeforePull earlier others
    → IsUnbroken n before → IsUnbroken m earlier → AreAlike (view_so_far c before) n (view_so_far d earlier) m → output n before ≡ output m earlier
same_so_far c d calls others before earlier n m mine yours here there whole sound alike =
    same_outputs c d (lines (pulled before)) (lines (pulled earlier)) before earlier n m
    (due_before c before calls mine here).outputs (due_before d earlier others yours there).outputs whole sound alike
