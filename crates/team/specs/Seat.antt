-- Where a feeder is, and what is known of it there.
use Rattle.std.specs.Prelude.{◌≡◌}
use Rattle.as_outside.specs.declared.source.Source as source
use Rattle.feeder.specs.declared.feeder.Feeder.{Feeder}
use Rattle.feeder.specs.Going.{IsLater}
use Rattle.team.specs.declared.seat.Place.{Place}
use Rattle.team.specs.declared.seat.Place.TheVariants.{There, Here}

-- the thread promises a later state of the feeder, or here it is
abbrev pub IsSeated : {F : Type 0} → source.Ghosts F → Feeder F → Place F → Type 0
IsSeated s base (There handle) = handle.promise.0.value ≡ base
IsSeated s base (Here feeder) = IsLater s base feeder
