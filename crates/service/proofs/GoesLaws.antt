-- Calls one after another, up to a stop.
use Rattle.std.proofs.Common.{◌≡◌, Result, Ok, Err, List, [], ◌∷◌, ◌++◌, false, sym, ap, ◌∙◌, IsErrAnd, subst, append_assoc, append-nil}
use Rattle.std.proofs.lemmas.Result.{err_from_is_err_and}
use Rattle.as_outside.specs.declared.entry.Entry.{Entry}
use Rattle.as_outside.specs.Log.{is_cue}
use Rattle.as_outside.specs.Makes.{Seen, Makes}
use Rattle.as_outside.proofs.EntryLaws.{HasNo-append}
use Rattle.as_outside.proofs.MakesLaws.{makes_none, makes_after}
use Rattle.service.specs.declared.stop.Stop.{Stop}
use Rattle.service.specs.Stop.{Continues, Goes}

-- no call
pub no_call : (a : Seen) (calls : List Entry) (P : List Entry → Type 0) → P calls → Continues a a calls P
no_call a calls P holds = record { calls = []; makes = makes_none a; holds = (tt, subst P (sym (append-nil calls)) holds) }

-- one call that is no cue
pub one_call : (a b : Seen) (calls : List Entry) (e : Entry) (P : List Entry → Type 0) → Makes a b (e ∷ []) → is_cue e ≡ false → P (calls ++ e ∷ []) → Continues a b calls P
one_call a b calls e P makes quiet holds = record { calls = e ∷ []; makes = makes; holds = ((quiet, tt), holds) }

pub weaker : (a b : Seen) (calls : List Entry) (P Q : List Entry → Type 0) → ((all : List Entry) → P all → Q all) → Continues a b calls P → Continues a b calls Q
weaker a b calls P Q leads h = record { calls = h.calls; makes = h.makes; holds = (h.holds.0, leads (calls ++ h.calls) h.holds.1) }

-- calls, and then others that begin where these came to
pub then : (a b c : Seen) (calls : List Entry) (P R : List Entry → Type 0) → Continues a b calls P → ((all : List Entry) → P all → Continues b c all R) → Continues a c calls R
then a b c calls P R first second =
    let next = second (calls ++ first.calls) first.holds.1 in
    record {
      calls = first.calls ++ next.calls;
      makes = makes_after a b c first.calls next.calls first.makes next.makes;
      holds = (HasNo-append is_cue first.calls next.calls first.holds.0 next.holds.0, subst R (append_assoc calls first.calls next.calls) next.holds.1);
    }

-- other words for what holds at Ok and at a stop
pub goes_weaker : {X : Type 0} (r : Result X Stop) (P P' : List Entry → Type 0) (Q Q' : Stop → List Entry → Type 0) → ((all : List Entry) → P all → P' all)
    → ((s : Stop) (all : List Entry) → Q s all → Q' s all) → (all : List Entry) → Goes r P Q all → Goes r P' Q' all
goes_weaker (Ok x) P P' Q Q' well stopped all h = well all h
goes_weaker (Err s) P P' Q Q' well stopped all h = stopped s all h

-- the exit of a `?`
pub goes_out : {X : Type 0} (a b : Seen) (calls : List Entry) (r : Result X Stop) (s : Stop) (P : List Entry → Type 0) (Q : Stop → List Entry → Type 0) → IsErrAnd r (λ y. y ≡ s)
    → Continues a b calls (Q s) → Continues a b calls (Goes r P Q)
goes_out a b calls r s P Q out h =
    let p = err_from_is_err_and r out in
    let is : r ≡ Err s = p.1 ∙ ap Err p.2 in
    rw is h
