-- Messages one by one: what one message more makes of what those before it made.
use Rattle.std.proofs.Common.{◌≡◌, ◌<◌, ◌^◌, Bool, true, false, cond, List, [], ◌∷◌, ◌++◌, refl}
use Rattle.std.specs.List.{filter, fold, AllByRecursion}
use Rattle.as_base.specs.declared.item.Record.{Record}
use Rattle.as_base.specs.declared.message.Msg.{Msg}
use Rattle.as_base.specs.declared.message.Msg.TheVariants as msg
use Rattle.as_base.specs.declared.stream.StreamId.{StreamId}
use Rattle.views.proofs.ListLaws.{All-push, All-first, All-rest, All-filter, All-both}
use Rattle.contents.specs.IsPast.{IsPast, ComesBefore}
use Rattle.contents.specs.Kept.{is_needed, is_wanted, in_needed_slice, kept_with, kept_from}
use Rattle.contents.specs.Orderly.{MayFollow, AreOrderlyFrom}
use Rattle.contents.specs.Past.{Past, followed}
use Rattle.contents.proofs.KeptLaws.{AreBefore, kept-after}
use Rattle.contents.proofs.PastLaws.{IsPast-after, lowers-none, all-before-it, unended-all}

pub past-push : (p : Past) (ms : List Msg) (m : Msg) → fold followed p (ms ++ m ∷ []) ≡ followed (fold followed p ms) m
past-push p [] m = refl
past-push p (n ∷ ms) m = past-push (followed p n) ms m

pub kept-push : (p : Past) (records : List Record) (ms : List Msg) (m : Msg)
    → kept_from p records (ms ++ m ∷ []) ≡ kept_with (followed (fold followed p ms) m) (kept_from p records ms) m
kept-push p records [] m = refl
kept-push p records (n ∷ ms) m = kept-push (followed p n) (kept_with (followed p n) records n) ms m

pub orderly-push : (is_there : StreamId → Bool) (p : Past) (ms : List Msg) (m : Msg)
    → AreOrderlyFrom is_there p ms → MayFollow is_there (fold followed p ms) m → AreOrderlyFrom is_there p (ms ++ m ∷ [])
orderly-push is_there p [] m a f = (f, tt)
orderly-push is_there p (n ∷ ms) m a f = (a.0, orderly-push is_there (followed p n) ms m a.1 f)

pub orderly-front : (is_there : StreamId → Bool) (p : Past) (ms : List Msg) (m : Msg)
    → AreOrderlyFrom is_there p (ms ++ m ∷ []) → AreOrderlyFrom is_there p ms × MayFollow is_there (fold followed p ms) m
orderly-front is_there p [] m a = (tt, a.0)
orderly-front is_there p (n ∷ ms) m a =
    let rest = orderly-front is_there (followed p n) ms m a.1 in
    ((a.0, rest.0), rest.1)

-- what holds of each record holds of each that is kept
abbrev pub Keeps : List Record → List Record → Type 1
Keeps records kept = (P : Record → Type 0) → AllByRecursion P records → AllByRecursion P kept

keeps-with : (p : Past) (kept : List Record) (m : Msg) → Keeps p.records kept → Keeps (followed p m).records (kept_with (followed p m) kept m)
keeps-with p kept (msg.Rec r) k P a = go (is_wanted p.holders r)
  where
    go : (b : Bool) → AllByRecursion P (cond b (kept ++ r ∷ []) kept)
    go true = All-push P kept r (k P (All-first P p.records (r ∷ []) a)) (All-rest P p.records (r ∷ []) a).0
    go false = k P (All-first P p.records (r ∷ []) a)
keeps-with p kept (msg.Advance wm) k P a = All-filter P (in_needed_slice (followed p (msg.Advance wm)) kept) kept (k P a)
keeps-with p kept (msg.Change c) k P a = k P a

module _ (is_there : StreamId → Bool) where
  pub IsPast-from : (p : Past) (ms : List Msg) → IsPast p → AreOrderlyFrom is_there p ms → IsPast (fold followed p ms)
  IsPast-from p [] i a = i
  IsPast-from p (m ∷ ms) i a = IsPast-from (followed p m) ms (IsPast-after is_there p m i a.0) a.1

  pub among-from : (p : Past) (kept : List Record) (ms : List Msg) → Keeps p.records kept → Keeps (fold followed p ms).records (kept_from p kept ms)
  among-from p kept [] k = k
  among-from p kept (m ∷ ms) k = among-from (followed p m) (kept_with (followed p m) kept m) ms (keeps-with p kept m k)

  -- what is needed of all records is what is needed of those kept
  pub suffice-from : (p : Past) (kept : List Record) (ms : List Msg) → IsPast p → Keeps p.records kept → AreOrderlyFrom is_there p ms
      → filter (is_needed p) kept ≡ filter (is_needed p) p.records
      → filter (is_needed (fold followed p ms)) (kept_from p kept ms) ≡ filter (is_needed (fold followed p ms)) (fold followed p ms).records
  suffice-from p kept [] i k a e = e
  suffice-from p kept (m ∷ ms) i k a e =
      let all : AreBefore m p.records = All-both (λ (r : Record). r.given.time < 2 ^ 62) (ComesBefore m) p.records i.timed (all-before-it is_there p m a.0) in
      suffice-from (followed p m) (kept_with (followed p m) kept m) ms (IsPast-after is_there p m i a.0) (keeps-with p kept m k) a.1
      (kept-after p m kept (unended-all p i) (lowers-none is_there p m a.0) (k (λ (r : Record). (r.given.time < 2 ^ 62) × ComesBefore m r) all) all e)
