-- What one more item does to the book, to its numbers and to the accepted records.
use Rattle.std.proofs.Common.{◌≡◌, ℕ, ◌+◌, Bool, true, false, cond, Option, Some, None, List, [], ◌∷◌, ◌++◌, map, length, refl, sym, ap, ap₂, ◌∙◌, append_assoc, append-nil, arith}
use Rattle.std.specs.List.{range_with_len}
use Rattle.std.specs.Result.{result_ok}
use Rattle.std.proofs.lemmas.Bool.{cond_both}
use Rattle.std.proofs.lemmas.List.{length_push, length-map, map-append}
use Rattle.as_base.specs.declared.config.Config.{Config}
use Rattle.as_base.specs.declared.item.Item.{Item}
use Rattle.as_base.specs.declared.item.Item.TheVariants.{Rec, Mark, End, Create, Delete, Bad}
use Rattle.as_base.specs.declared.query.Plan.{Plan}
use Rattle.views.specs.Query.{Query, opened, is_live, closed}
use Rattle.session.specs.Acceptance.{changelog_time}
use Rattle.session.specs.Planned.{plan_for}
use Rattle.session.specs.Book.{book, book_from, book_after, has_slot, with_query, numbers}
use Rattle.session.specs.View.{record_of, records}
use Rattle.views.proofs.NumberLaws.{range-push}
use Rattle.session.proofs.WalkLaws.{walk-push}

book_from-push : (c : Config) (before : List Item) (queries : List Query) (h : List Item) (x : Item) → book_from c before queries (h ++ x ∷ []) ≡ book_after c (before ++ h) (book_from c before queries h) x
book_from-push c before queries [] x = ap (λ b. book_after c b queries x) (sym (append-nil before))
book_from-push c before queries (y ∷ h) x =
    book_from-push c (before ++ y ∷ []) (book_after c before queries y) h x
    ∙ ap (λ b. book_after c b (book_from c (before ++ y ∷ []) (book_after c before queries y) h) x) (append_assoc before (y ∷ []) h)

-- one more item does to the book what it does by all the items before it
pub book-push : (c : Config) (h : List Item) (x : Item) → book c (h ++ x ∷ []) ≡ book_after c h (book c h) x
book-push c h x = book_from-push c [] [] h x

pub records-push : (c : Config) (h : List Item) (x : Item) → records c (h ++ x ∷ []) ≡ records c h ++ record_of c h x
records-push c h x = walk-push (record_of c) [] h x

-- a list of queries of which each has the next number
abbrev IsInOrder : List Query → Type 0
IsInOrder queries = map (λ (q : Query). q.n) queries ≡ range_with_len 1 (length queries)

with_query-in_order : (queries : List Query) (p : Option Plan) (at : ℕ) → IsInOrder queries → IsInOrder (with_query queries p at)
with_query-in_order queries None at e = e
with_query-in_order queries (Some plan) at e =
    map-append (λ (q : Query). q.n) queries (opened (length queries + 1) plan at ∷ [])
    ∙ ap (λ l. l ++ (length queries + 1) ∷ []) e
    ∙ ap (λ n. range_with_len 1 (length queries) ++ n ∷ []) (omega arith)
    ∙ sym (range-push 1 (length queries))
    ∙ ap (range_with_len 1) (sym (length_push queries _))

closed-number : (n at : ℕ) (q : Query) → (closed n at q).n ≡ q.n
closed-number n at q = go (is_live n q)
  where
    go : (b : Bool) → (cond b (record { n = q.n; plan = q.plan; from = q.from; to = at; live = false }) q).n ≡ q.n
    go true = refl
    go false = refl

-- closing a query changes no number
pub closed-numbers : (n at : ℕ) (queries : List Query) → map (λ (q : Query). q.n) (map (closed n at) queries) ≡ map (λ (q : Query). q.n) queries
closed-numbers n at [] = refl
closed-numbers n at (q ∷ queries) = ap₂ (λ m l. m ∷ l) (closed-number n at q) (closed-numbers n at queries)

closed-in_order : (queries : List Query) (n at : ℕ) → IsInOrder queries → IsInOrder (map (closed n at) queries)
closed-in_order queries n at e = closed-numbers n at queries ∙ e ∙ ap (range_with_len 1) (sym (length-map queries (closed n at)))

book_after-in_order : (c : Config) (before : List Item) (queries : List Query) (x : Item) → IsInOrder queries → IsInOrder (book_after c before queries x)
book_after-in_order c before queries (Create text) e =
    cond_both (has_slot c queries) (with_query queries (result_ok (plan_for c text)) (changelog_time c before)) queries IsInOrder
    (λ free. with_query-in_order queries (result_ok (plan_for c text)) (changelog_time c before) e) (λ full. e)
book_after-in_order c before queries (Delete n) e = closed-in_order queries n (changelog_time c before) e
book_after-in_order c before queries (Rec g) e = e
book_after-in_order c before queries (Mark s t) e = e
book_after-in_order c before queries (End s) e = e
book_after-in_order c before queries (Bad cause) e = e

book_from-in_order : (c : Config) (before h : List Item) (queries : List Query) → IsInOrder queries → IsInOrder (book_from c before queries h)
book_from-in_order c before [] queries e = e
book_from-in_order c before (x ∷ h) queries e = book_from-in_order c (before ++ x ∷ []) h (book_after c before queries x) (book_after-in_order c before queries x e)

-- the queries of any items are numbered 1, 2, and so on
pub book-in_order : (c : Config) (h : List Item) → numbers c h ≡ range_with_len 1 (length (book c h))
book-in_order c h = book_from-in_order c [] h [] refl
