-- The rows that are due to a query come from what it has of its view, and from nothing else: alike queries have the same.
use Rattle.std.proofs.Common.{◌≡◌, ℕ, ◌==◌, min, nat_le, Bool, true, false, cond, List, [], ◌∷◌, ◌++◌, map, refl, sym, ap, ◌∙◌}
use Rattle.std.specs.List.{filter, flat_map}
use Rattle.as_base.specs.declared.row.Row.{Row}
use Rattle.as_base.specs.Windows.{end_of}
use Rattle.views.specs.Alike.{Share, share_of, share_of_number, AreAlike}
use Rattle.views.specs.Passed.{windows_with}
use Rattle.views.specs.Query.{Query}
use Rattle.views.specs.Rows.{rows_with, due_to}
use Rattle.views.specs.View.{View}

-- the rows that are due to a query by what it has of a view
abbrev due_by_share : Share → List Row
due_by_share s = flat_map (rows_with s.plan s.lefts s.rights) (filter (λ k. nat_le (min (end_of s.plan.win k) s.to) s.mark) (windows_with s.plan.win s.lefts))

-- what is told of the picked elements is what is told of their images
flat_map-picked : {X Y Z : Type 0} (p : X → Bool) (g : X → Y) (f : Y → List Z) (xs : List X)
    → flat_map (λ x. cond (p x) (f (g x)) []) xs ≡ flat_map f (map g (filter p xs))
flat_map-picked p g f [] = refl
flat_map-picked p g f (x ∷ xs) = go (p x) (flat_map-picked p g f xs)
  where
    go : (b : Bool) → flat_map (λ x. cond (p x) (f (g x)) []) xs ≡ flat_map f (map g (filter p xs))
        → cond b (f (g x)) [] ++ flat_map (λ x. cond (p x) (f (g x)) []) xs ≡ flat_map f (map g (cond b (x ∷ filter p xs) (filter p xs)))
    go true rest = ap (λ l. f (g x) ++ l) rest
    go false rest = rest

due_to-share : (v : View) (n : ℕ) → due_to v n ≡ flat_map due_by_share (share_of_number v n)
due_to-share v n = flat_map-picked (λ (q : Query). q.n == n) (share_of v) due_by_share v.queries

-- alike queries have the same rows due, whatever else their views have
pub due_to-alike : (v w : View) (n m : ℕ) → AreAlike v n w m → due_to v n ≡ due_to w m
due_to-alike v w n m alike = due_to-share v n ∙ ap (flat_map due_by_share) alike ∙ sym (due_to-share w m)
