-- What holds of every past that orderly messages make.
use Rattle.std.specs.Prelude.{◌≡◌, ◌≤◌, ◌<◌, ◌^◌, List, [], ◌∷◌}
use Rattle.std.specs.List.{AllByRecursion}
use Rattle.as_base.specs.declared.item.Record.{Record}
use Rattle.as_base.specs.declared.message.Msg.{Msg}
use Rattle.as_base.specs.declared.message.Msg.TheVariants as msg
use Rattle.as_base.specs.declared.stream.StreamId.{StreamId}
use Rattle.as_base.specs.Canonical.{IsCanonical, FitsPlan}
use Rattle.views.specs.IsHolder.{time_of, IsUnended}
use Rattle.changelog.specs.Orderly.{IsOrderly}
use Rattle.views.specs.Slots.{Holder, holders_of}
use Rattle.contents.specs.Past.{Past, mark_of}

-- of two holders of one slot the first ends before the second begins
abbrev pub EndsBefore : Holder → Holder → Type 0
EndsBefore g h = g.slot ≡ h.slot → g.query.to ≤ h.query.from

-- the lives of the holders of a slot stand one after another
abbrev pub LiveApart : List Holder → Type 0
LiveApart [] = Unit {0}
LiveApart (h ∷ hs) = AllByRecursion (EndsBefore h) hs × LiveApart hs

-- The holder's slot is one of 512, its life lies within time and does not run backwards, and its plan is in its one form
-- and in range.
pub record IsHolder (h : Holder) : Type 0 where
  pub slot : h.slot < 512
  pub unended : IsUnended h
  pub forward : h.query.from ≤ h.query.to
  pub most : h.query.to ≤ 2 ^ 62
  pub canonical : IsCanonical h.query.plan
  pub fits : FitsPlan h.query.plan

-- the numbers of the queries rise
abbrev pub NumbersRise : List Holder → Type 0
NumbersRise [] = Unit {0}
NumbersRise (h ∷ hs) = AllByRecursion (λ (g : Holder). h.query.n < g.query.n) hs × NumbersRise hs

-- The changes may come one after another and made the holders. These are sound, with rising numbers, and those of one slot
-- live one after another. The records have times.
pub record IsPast (p : Past) : Type 0 where
  pub made : p.holders ≡ holders_of p.changes
  pub orderly : IsOrderly p.changes
  pub holders : AllByRecursion IsHolder p.holders
  pub numbered : NumbersRise p.holders
  pub apart : LiveApart p.holders
  pub timed : AllByRecursion (λ (r : Record). r.given.time < 2 ^ 62) p.records

-- The record comes before the message: a change has a later time.
abbrev pub ComesBefore : Msg → Record → Type 0
ComesBefore (msg.Rec x) r = Unit {0}
ComesBefore (msg.Advance wm) r = Unit {0}
ComesBefore (msg.Change c) r = r.given.time < time_of c

-- The message lowers no watermark, and is no change after the end of time.
abbrev pub LowersNoMark : Past → Msg → Type 0
LowersNoMark p (msg.Rec x) = Unit {0}
LowersNoMark p (msg.Advance wm) = (s : StreamId) → mark_of p.marks s ≤ mark_of wm s
LowersNoMark p (msg.Change c) = time_of c ≤ 2 ^ 62
