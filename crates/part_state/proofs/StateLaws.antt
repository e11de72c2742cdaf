-- A state over the messages that it took, one more after another.
use Rattle.std.proofs.Common.{◌≡◌, ℕ, ◌≤◌, ◌<◌, ◌^◌, Bool, true, None, List, [], ◌∷◌, ◌++◌, fold, length, refl, sym, ap, subst, ◌∙◌, arith}
use Rattle.std.proofs.lemmas.List.{length-append}
use Rattle.std.specs.List.{AllByRecursion}
use Rattle.as_base.specs.declared.item.Record.{Record}
use Rattle.as_base.specs.declared.message.Change.{Change}
use Rattle.as_base.specs.declared.message.Change.TheVariants.{Opened, Closed}
use Rattle.as_base.specs.declared.message.Msg.{Msg}
use Rattle.as_base.specs.declared.message.Msg.TheVariants as msg
use Rattle.as_base.specs.declared.stream.StreamId.{StreamId}
use Rattle.changelog.specs.declared.epochs.Epochs.{Epochs}
use Rattle.changelog.specs.Changes.{slot_of, times_of, last_or}
use Rattle.changelog.specs.EpochsFor.{EpochsFor, newest}
use Rattle.changelog.proofs.NumberLaws.{last_or-append}
use Rattle.shared_agg.specs.declared.slices.Slice.{Slice}
use Rattle.shared_agg.specs.Slices.{starts, cells_from, epoch_from}
use Rattle.views.specs.IsHolder.{time_of}
use Rattle.views.proofs.ListLaws.{All-both, All-rest}
use Rattle.contents.specs.IsPast.{IsPast}
use Rattle.contents.specs.Kept.{kept, kept_with}
use Rattle.contents.specs.Orderly.{AreOrderly, AreOrderlyFrom, MayFollow, ChangeMayFollow, TimeMayFollow}
use Rattle.contents.specs.Past.{Past, no_past, followed, past_of}
use Rattle.contents.proofs.PastLaws.{IsPast-first, last-below, slot-within}
use Rattle.contents.proofs.StepLaws.{past-push, kept-push, orderly-push, IsPast-from, among-from}
use Rattle.part_state.specs.declared.state.State.{State}
use Rattle.part_state.specs.Standing.{IsBefore, IsStanding}
use Rattle.part_state.specs.StateFor.{StateFor, streams_of, is_there}

-- what stands after a message more
pub state-step : (st now : State) (ms : List Msg) (m : Msg) → StateFor st ms → MayFollow (is_there (streams_of st)) (past_of ms) m → streams_of now ≡ streams_of st
    → IsStanding now (followed (past_of ms) m) (kept_with (followed (past_of ms) m) (kept ms) m) → StateFor now (ms ++ m ∷ [])
state-step st now ms m was follows streams stands = record {
  orderly = subst (λ n. AreOrderly (is_there n) (ms ++ m ∷ [])) (sym streams) (orderly-push (is_there (streams_of st)) no_past ms m was.orderly follows);
  stands = subst (λ p. IsStanding now p (kept (ms ++ m ∷ []))) (sym (past-push no_past ms m))
      (subst (λ (l : List Record). IsStanding now (followed (past_of ms) m) l) (sym (kept-push no_past [] ms m)) stands);
}

pub state-past : (st : State) (ms : List Msg) → StateFor st ms → IsPast (past_of ms)
state-past st ms was = IsPast-from (is_there (streams_of st)) no_past ms IsPast-first was.orderly

-- what holds of all records holds of those that are kept
pub of-kept : (ms : List Msg) (P : Record → Type 0) → AllByRecursion P (past_of ms).records → AllByRecursion P (kept ms)
of-kept ms = among-from (λ s. true) no_past [] ms (λ P all. tt)

pub kept-early : (st : State) (ms : List Msg) → StateFor st ms → AllByRecursion (λ (r : Record). r.given.time < 2 ^ 62) (kept ms)
kept-early st ms was = of-kept ms (λ (r : Record). r.given.time < 2 ^ 62) (state-past st ms was).timed

pub kept-before : (st : State) (ms : List Msg) (at : ℕ) → StateFor st ms → TimeMayFollow (past_of ms) at → AllByRecursion (IsBefore at) (kept ms)
kept-before st ms at was time =
    of-kept ms (IsBefore at) (All-both (λ (r : Record). r.given.time < at) (λ (r : Record). r.given.time < 2 ^ 62) (past_of ms).records time.records (state-past st ms was).timed)

-- ---- numbers

-- there are fewer records than the line of any that comes after them
abbrev Counted : Past → Type 0
Counted p = (n : ℕ) → 1 ≤ n → AllByRecursion (λ (s : Record). s.seq < n) p.records → length p.records < n

counted-after : (there : StreamId → Bool) (p : Past) (m : Msg) → Counted p → MayFollow there p m → Counted (followed p m)
counted-after there p (msg.Rec r) c f n some all =
    let before = c r.seq f.first f.line in
    let last = (All-rest (λ (s : Record). s.seq < n) p.records (r ∷ []) all).0 in
    let l = length-append p.records (r ∷ []) in
    omega (arith, before, last, l)
counted-after there p (msg.Advance wm) c f n some all = c n some all
counted-after there p (msg.Change change) c f n some all = c n some all

counted-from : (there : StreamId → Bool) (p : Past) (ms : List Msg) → Counted p → AreOrderlyFrom there p ms → Counted (fold followed p ms)
counted-from there p [] c a = c
counted-from there p (m ∷ ms) c a = counted-from there (followed p m) ms (counted-after there p m c a.0) a.1

-- few records came before one that may come
pub few-before : (st : State) (ms : List Msg) (r : Record) → StateFor st ms → MayFollow (is_there (streams_of st)) (past_of ms) (msg.Rec r) → length (past_of ms).records < 2 ^ 62
few-before st ms r was f =
    let c = counted-from (is_there (streams_of st)) no_past ms (λ n some all. omega (arith, some)) was.orderly r.seq f.first f.line in
    let most = f.most in
    omega (arith, c, most)

-- ---- changes

pub slot-below : (there : StreamId → Bool) (p : Past) (c : Change) → IsPast p → ChangeMayFollow there p c → slot_of c < 512
slot-below there p (Opened n slot at plan) past f = f.1
slot-below there p (Closed n slot at) past f = slot-within n slot p.holders past.holders f.1

-- the time of a change is not before that of the last one
pub newest-before : (e : Epochs) (p : Past) (at : ℕ) → EpochsFor e p.changes → AllByRecursion (λ (c : Change). time_of c ≤ at) p.changes → newest e ≤ at
newest-before e p at stands all =
    let keeps = stands.0 in
    let is : newest e ≡ last_or 0 (times_of p.changes) =
    ap (λ n. last_or n e.times.items) keeps.latest ∙ sym (last_or-append 0 keeps.trimmed e.times.items) ∙ ap (last_or 0) keeps.stamps in
    let below = last-below 0 at p.changes (omega arith) all in
    omega (arith, is, below)

-- ---- nothing yet

pub no-cells : (xs : List Slice) (c slot : ℕ) → starts xs ≡ [] → cells_from xs c slot ≡ []
no-cells [] c slot e = refl
no-cells (x ∷ xs) c slot e = absurd (let l = ap length e in omega (arith, l))

pub no-epoch : (xs : List Slice) (c : ℕ) → starts xs ≡ [] → epoch_from xs c ≡ None
no-epoch [] c e = refl
no-epoch (x ∷ xs) c e = absurd (let l = ap length e in omega (arith, l))
