-- The queries that a list of items made, and the word that each item is refused by.
use Rattle.std.specs.Prelude.{ℕ, ◌+◌, not, nat_lt, if◌then◌else◌, Bool, false, Option, Some, None, is_none, List, [], ◌∷◌, ◌++◌, map, length, count_by}
use Rattle.std.specs.List.{list_any}
use Rattle.std.specs.Result.{result_ok, result_err}
use Rattle.as_base.specs.declared.config.Config.{Config}
use Rattle.as_base.specs.declared.stream.StreamId.{StreamId}
use Rattle.as_base.specs.declared.item.Cause.{Cause}
use Rattle.as_base.specs.declared.item.Cause.TheVariants.{Long, Form}
use Rattle.as_base.specs.declared.item.Item.{Item}
use Rattle.as_base.specs.declared.item.Item.TheVariants.{Rec, Mark, End, Create, Delete, Bad}
use Rattle.as_base.specs.declared.query.Plan.{Plan}
use Rattle.as_base.specs.declared.answer.Word.{Word}
use Rattle.as_base.specs.declared.answer.Word.TheVariants as word
use Rattle.as_base.specs.Config.{is_configured}
use Rattle.views.specs.Query.{Query, opened, is_live, closed}
use Rattle.session.specs.Acceptance.{front, top_mark, has_ended, changelog_time}
use Rattle.session.specs.Planned.{plan_for}

-- fewer queries live than there are slots
abbrev pub has_slot : Config → List Query → Bool
has_slot c book = nat_lt (count_by (λ (q : Query). q.live) book) c.slots

-- the book with one more query, if there is a plan
abbrev pub with_query : List Query → Option Plan → ℕ → List Query
with_query book None at = book
with_query book (Some plan) at = book ++ opened (length book + 1) plan at ∷ []

-- the book after one more item, where `before` came before it
abbrev pub book_after : Config → List Item → List Query → Item → List Query
book_after c before book (Create text) = if has_slot c book then with_query book (result_ok (plan_for c text)) (changelog_time c before) else book
book_after c before book (Delete n) = map (closed n (changelog_time c before)) book
book_after c before book (Rec g) = book
book_after c before book (Mark s t) = book
book_after c before book (End s) = book
book_after c before book (Bad cause) = book

-- the book after more items, where `before` came before them
abbrev pub book_from : Config → List Item → List Query → List Item → List Query
book_from c before book [] = book
book_from c before book (x ∷ h) = book_from c (before ++ x ∷ []) (book_after c before book x) h

-- The queries of the items, by number.
abbrev pub book : Config → List Item → List Query
book c h = book_from c [] [] h

-- the numbers of the queries
abbrev pub numbers : Config → List Item → List ℕ
numbers c h = map (λ (q : Query). q.n) (book c h)

-- why a stream item is refused: the first of these, or the last word where the item is behind
abbrev pub stream_refusal : Config → List Item → StreamId → Bool → Word → Option Word
stream_refusal c h s behind last =
    if not (is_configured c s) then Some word.Stranger
    else (if has_ended c h s then Some word.Ended
    else (if behind then Some last else None))

-- the word that a line in no form is refused by
abbrev pub refusal_of_cause : Cause → Word
refusal_of_cause Long = word.Long
refusal_of_cause Form = word.Form

-- why a creation is refused: by its text, or since no slot is free
abbrev pub creation_refusal : Option Word → Bool → Option Word
creation_refusal (Some w) free = Some w
creation_refusal None free = if free then None else Some word.Full

-- The word that an item is refused by after the items `h`, if it is refused.
abbrev pub refusal : Config → List Item → Item → Option Word
refusal c h (Rec g) = stream_refusal c h g.stream (nat_lt g.time (front c h g.stream)) word.Late
refusal c h (Mark s t) = stream_refusal c h s (nat_lt t (top_mark c h s)) word.Back
refusal c h (End s) = stream_refusal c h s false word.Ended
refusal c h (Create text) = creation_refusal (result_err (plan_for c text)) (has_slot c (book c h))
refusal c h (Delete n) = if list_any (is_live n) (book c h) then None else Some word.Unknown
refusal c h (Bad cause) = Some (refusal_of_cause cause)

-- the item is accepted after the items `h`
abbrev pub accepts : Config → List Item → Item → Bool
accepts c h x = is_none (refusal c h x)
