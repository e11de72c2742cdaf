-- What holds of no items, and of one more item wherever it held of those before it, holds of all lists of items.
use Rattle.std.proofs.Common.{List, [], ◌∷◌, ◌++◌, sym, subst, append_assoc, append-nil}
use Rattle.as_base.specs.declared.item.Item.{Item}

pub by_push : (P : List Item → Type 0) → P [] → ((h : List Item) (x : Item) → P h → P (h ++ x ∷ [])) → (h : List Item) → P h
by_push P none more h = go [] h none
  where
    go : (before after : List Item) → P before → P (before ++ after)
    go before [] p = subst P (sym (append-nil before)) p
    go before (x ∷ after) p = subst P (append_assoc before (x ∷ []) after) (go (before ++ x ∷ []) after (more before x p))
