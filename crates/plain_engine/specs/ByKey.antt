-- Records by key.
use Rattle.std.specs.Prelude.{List}
use Rattle.std.specs.List.Sorted.{IsSortedByKey}
use Rattle.std.specs.Ordering.{int_cmp}
use Rattle.as_base.specs.declared.item.Given.{Given}

-- the records stand by key
abbrev pub AreByKey : List Given → Type 0
AreByKey gs = IsSortedByKey (λ (g : Given). g.key) int_cmp gs
