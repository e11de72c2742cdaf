-- The items of generated lines: one line more, and that their numbers are in range.
use Rattle.std.proofs.Common.{◌≡◌, ℕ, ◌+◌, ◌≤◌, [], ◌∷◌, ◌++◌, map, ap, ◌∙◌, subst, sym, arith}
use Rattle.std.specs.List.{range_with_len}
use Rattle.std.proofs.lemmas.List.{map-append}
use Rattle.as_base.specs.Range.{InRange, IsSpelled}
use Rattle.as_base.specs.declared.item.Item.{Item}
use Rattle.as_base.specs.declared.item.Item.TheVariants.{Rec, Mark, End, Create, Delete, Bad}
use Rattle.views.proofs.NumberLaws.{range-push}
use Rattle.generate.specs.Generated.{generated}
use Rattle.generate.proofs.LineLaws.{spelled}
use Rattle.soak.specs.Soaked.{items_of}

in_range : (x : Item) → IsSpelled x → InRange x
in_range (Rec g) h = h.0
in_range (Mark s t) h = h
in_range (End s) h = h
in_range (Create text) h = h
in_range (Delete n) h = h
in_range (Bad cause) h = h

-- a generated line is in range
pub generated-in_range : (number i streams : ℕ) (x : Item) → i ≤ 10000000 → x ≡ generated number i streams → InRange x
generated-in_range number i streams x few e = subst InRange (sym e) (in_range (generated number i streams) (spelled number i streams few))

-- one line more
pub items_of-more : (number k streams : ℕ) → items_of number (k + 1) streams ≡ items_of number k streams ++ generated number (k + 1) streams ∷ []
items_of-more number k streams =
    let next : 1 + k ≡ k + 1 = omega arith in
    ap (map (λ i. generated number i streams)) (range-push 1 k)
    ∙ map-append (λ i. generated number i streams) (range_with_len 1 k) ((1 + k) ∷ [])
    ∙ ap (λ i. items_of number k streams ++ generated number i streams ∷ []) next
