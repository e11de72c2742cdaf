-- What an item adds to the text of an output: only an accepted watermark or end adds any. The rows of passed windows stay.
use Rattle.std.proofs.Common.{◌≡◌, ℕ, ◌&&◌, Bool, true, false, true≢false, cond, Option, Some, None, List, [], ◌∷◌, ◌++◌, refl, sym, ap, ◌∙◌, append-nil}
use Rattle.std.specs.List.{AllByRecursion}
use Rattle.std.specs.Result.{result_ok}
use Rattle.as_words.specs.Prefix.{IsPrefix}
use Rattle.as_base.specs.Range.{InRange}
use Rattle.as_base.specs.declared.config.Config.{Config}
use Rattle.as_base.specs.declared.item.Item.{Item}
use Rattle.as_base.specs.declared.item.Item.TheVariants.{Rec, Mark, End, Create, Delete, Bad}
use Rattle.as_base.specs.declared.message.Msg.{Msg}
use Rattle.as_base.specs.declared.query.Plan.{Plan}
use Rattle.as_base.specs.declared.row.Row.{Row}
use Rattle.views.specs.View.{View}
use Rattle.views.specs.Rows.{has_passed, rows_of}
use Rattle.views.proofs.DueLaws.{due_by, has_passed-after, rows_of-after}
use Rattle.row_text.specs.RowText.{text_of as text_by}
use Rattle.row_text.proofs.TextLaws.{text_of_rows, text_of-after}
use Rattle.session.specs.Book.{accepts}
use Rattle.session.specs.Message.{opening, message_of, message}
use Rattle.session.specs.Planned.{plan_for}
use Rattle.session.specs.Prints.{is_mark_or_end, prints}
use Rattle.session.specs.View.{view, text_of}
use Rattle.session.proofs.FollowLaws.{message-follows, view-is}
use Rattle.session.proofs.ViewLaws.{view-message, view-same}

-- what a message, if there is one, makes due to query n
abbrev pub due_of : View → Option Msg → ℕ → List Row
due_of v None n = []
due_of v (Some m) n = due_by v m n

-- what an item adds to the text of an output
pub text_of-push : (c : Config) (h : List Item) (x : Item) (n : ℕ) → AllByRecursion InRange h → InRange x
    → text_of c (h ++ x ∷ []) n ≡ text_of c h n ++ text_of_rows (due_of (view c h) (message c h x) n)
text_of-push c h x n all within = go (message c h x) refl
  where
    go : (o : Option Msg) → message c h x ≡ o → text_of c (h ++ x ∷ []) n ≡ text_of c h n ++ text_of_rows (due_of (view c h) o n)
    go (Some m) is =
        ap (λ v. text_by v n) (view-message c h x m is)
        ∙ text_of-after (view c h) m n (view-is c h all) (message-follows c h x m all within is)
    go None is = ap (λ v. text_by v n) (view-same c h x is) ∙ sym (append-nil (text_of c h n))

-- a creation makes no row due
due_of-opening : (c : Config) (h : List Item) (p : Option Plan) (n : ℕ) → due_of (view c h) (opening c h p) n ≡ []
due_of-opening c h None n = refl
due_of-opening c h (Some plan) n = refl

-- nor does any other item but a watermark or an end
due_of-other : (c : Config) (h : List Item) (x : Item) (n : ℕ) → is_mark_or_end x ≡ false → due_of (view c h) (message_of c h x) n ≡ []
due_of-other c h (Rec g) n other = refl
due_of-other c h (Mark s t) n other = absurd (true≢false other)
due_of-other c h (End s) n other = absurd (true≢false other)
due_of-other c h (Create text) n other = due_of-opening c h (result_ok (plan_for c text)) n
due_of-other c h (Delete m) n other = refl
due_of-other c h (Bad cause) n other = refl

due_of-quiet : (c : Config) (h : List Item) (x : Item) (n : ℕ) → prints c h x ≡ false → due_of (view c h) (message c h x) n ≡ []
due_of-quiet c h x n quiet = go (accepts c h x) quiet
  where
    go : (b : Bool) → (b && is_mark_or_end x) ≡ false → due_of (view c h) (cond b (message_of c h x) None) n ≡ []
    go true other = due_of-other c h x n other
    go false other = refl

-- ---- the laws

pub text-grows : (c : Config) (h : List Item) (x : Item) (n : ℕ) → AllByRecursion InRange h → InRange x → IsPrefix (text_of c h n) (text_of c (h ++ x ∷ []) n)
text-grows c h x n all within = (text_of_rows (due_of (view c h) (message c h x) n), text_of-push c h x n all within)

pub text-quiet : (c : Config) (h : List Item) (x : Item) (n : ℕ) → AllByRecursion InRange h → InRange x → prints c h x ≡ false → text_of c (h ++ x ∷ []) n ≡ text_of c h n
text-quiet c h x n all within quiet =
    text_of-push c h x n all within ∙ ap (λ rows. text_of c h n ++ text_of_rows rows) (due_of-quiet c h x n quiet) ∙ append-nil (text_of c h n)

pub windows-stay : (c : Config) (h : List Item) (x : Item) (n k : ℕ) → AllByRecursion InRange h → InRange x → has_passed (view c h) n k ≡ true
    → (has_passed (view c (h ++ x ∷ [])) n k ≡ true) × (rows_of (view c (h ++ x ∷ [])) n k ≡ rows_of (view c h) n k)
windows-stay c h x n k all within passed = go (message c h x) refl
  where
    go : (o : Option Msg) → message c h x ≡ o → (has_passed (view c (h ++ x ∷ [])) n k ≡ true) × (rows_of (view c (h ++ x ∷ [])) n k ≡ rows_of (view c h) n k)
    go (Some m) is =
        let made = view-is c h all in
        let follows = message-follows c h x m all within is in (
          ap (λ v. has_passed v n k) (view-message c h x m is) ∙ has_passed-after (view c h) m n k made follows passed,
          ap (λ v. rows_of v n k) (view-message c h x m is) ∙ rows_of-after (view c h) m n k made follows passed,
        )
    go None is = (ap (λ v. has_passed v n k) (view-same c h x is) ∙ passed, ap (λ v. rows_of v n k) (view-same c h x is))
