-- The tally of items, and of one item more by what that item brings about.
use Rattle.std.proofs.Common.{◌≡◌, ℕ, ◌+◌, Bool, true, false, cond, Option, Some, None, List, [], ◌∷◌, ◌++◌, length, codes, count_by, refl, sym, ap, ◌∙◌, append_assoc, append-nil, arith}
use Rattle.std.specs.Option.{option_to_list}
use Rattle.std.specs.List.{sum_by}
use Rattle.std.proofs.lemmas.List.{length-append, length-map}
use Rattle.std.proofs.lemmas.List.Sums.{sum_by-append}
use Rattle.as_base.specs.declared.config.Config.{Config}
use Rattle.as_base.specs.declared.item.Item.{Item}
use Rattle.as_base.specs.declared.answer.Answer.{Answer}
use Rattle.as_base.specs.declared.answer.Fed.{Fed}
use Rattle.as_base.specs.declared.answer.Piece.{Piece}
use Rattle.as_base.specs.declared.answer.Word.{Word}
use Rattle.as_base.specs.declared.answer.Word.TheVariants.{Created, Deleted}
use Rattle.as_base.specs.declared.item.Item.TheVariants.{End}
use Rattle.as_base.specs.declared.stream.StreamId.{StreamId}
use Rattle.as_base.specs.declared.stream.StreamId.TheVariants.{A, B, C, D}
use Rattle.views.specs.Query.{Query}
use Rattle.views.specs.Rows.{due_to}
use Rattle.row_text.proofs.FeedLaws.{rows-feeds}
use Rattle.session.specs.Answers.{answers, answer_to}
use Rattle.session.specs.Book.{book, numbers}
use Rattle.session.specs.Outcome.{IsFed, created, only_told}
use Rattle.session.specs.View.{view, text_of}
use Rattle.session.specs.Acceptance.{is_open}
use Rattle.session.specs.Shut.{end_of, shut}
use Rattle.session.proofs.CountLaws.{dead, deleted, dead-push}
use Rattle.session.proofs.MeasureLaws.{IsMeasure, measure_of, measure-fed, sum-same}
use Rattle.session.proofs.ViewLaws.{numbers-created}
use Rattle.session.proofs.WalkLaws.{answers-push}
use Rattle.session.proofs.BookLaws.{book-push}
use Rattle.session.proofs.ShutLaws.{ends-shut, answers-shut}
use Rattle.soak.specs.declared.tally.Tally.{Tally}
use Rattle.soak.specs.Soaked.{counted, soak_text}
use Rattle.soak.specs.Tally.{is_refusal, refusals, rows_due, bytes_due, IsTallyOf, with_word, with_answer, feeds_in, with_fed}

-- ---- what an answer counts

-- how many refusals the answers are
abbrev refused_in : List Answer → ℕ
refused_in list = count_by (λ (a : Answer). is_refusal a.word) list

-- The tally t' has this answer more than the tally t.
record HasAnswer (o : Option Answer) (t t' : Tally) : Type 0 where
  created : t'.created ≡ t.created + length (created o)
  deleted : t'.deleted ≡ t.deleted + deleted o
  refused : t'.refused ≡ t.refused + refused_in (option_to_list o)
  rows : t'.rows ≡ t.rows
  bytes : t'.bytes ≡ t.bytes

has_answer : (o : Option Answer) (t : Tally) → HasAnswer o t (with_answer o t)
has_answer None t = record { created = omega arith; deleted = omega arith; refused = omega arith; rows = refl; bytes = refl }
has_answer (Some a) t = by_word a.word
  where
    by_word : (w : Word) → HasAnswer (Some (record { line = a.line; word = w })) t (with_word w t)
    by_word (Created n at) = record { created = omega arith; deleted = omega arith; refused = omega arith; rows = refl; bytes = refl }
    by_word (Deleted n at) = record { created = omega arith; deleted = omega arith; refused = omega arith; rows = refl; bytes = refl }
    by_word _ = record { created = omega arith; deleted = omega arith; refused = omega arith; rows = refl; bytes = refl }

-- ---- measures of all outputs

feeds-measure : IsMeasure feeds_in
feeds-measure = record { none = refl; joined = λ a b. sum_by-append _ a b }

length-measure : IsMeasure (λ bytes. length bytes)
length-measure = record { none = refl; joined = λ a b. length-append a b }

-- all outputs have as many rows as they have line feeds
rows-measured : (c : Config) (h : List Item) → rows_due c h ≡ measure_of feeds_in c h
rows-measured c h = sum-same (λ n. length (due_to (view c h) n)) (λ n. feeds_in (text_of c h n)) (numbers c h) (λ n. rows-feeds (view c h) n)

rows-fed : (c : Config) (h : List Item) (x : Item) (fed : Fed) → IsFed c h x fed → rows_due c (h ++ x ∷ []) ≡ rows_due c h + sum_by (λ (p : Piece). feeds_in p.bytes) fed.pieces
rows-fed c h x fed told =
    let more : measure_of feeds_in c (h ++ x ∷ []) ≡ measure_of feeds_in c h + sum_by (λ (p : Piece). feeds_in p.bytes) fed.pieces = measure-fed feeds_in feeds-measure c h x fed told in
    omega (arith, rows-measured c (h ++ x ∷ []), rows-measured c h, more)

bytes-fed : (c : Config) (h : List Item) (x : Item) (fed : Fed) → IsFed c h x fed → bytes_due c (h ++ x ∷ []) ≡ bytes_due c h + sum_by (λ (p : Piece). length p.bytes) fed.pieces
bytes-fed c h x fed told = measure-fed (λ bytes. length bytes) length-measure c h x fed told

-- ---- one item more

length-numbers : (c : Config) (h : List Item) → length (numbers c h) ≡ length (book c h)
length-numbers c h = length-map (book c h) (λ (q : Query). q.n)

created-push : (c : Config) (h : List Item) (x : Item) → length (book c (h ++ x ∷ [])) ≡ length (book c h) + length (created (answer_to c h x))
created-push c h x =
    let all = ap (λ (ns : List ℕ). length ns) (numbers-created c h x) in
    let parts = length-append (numbers c h) (created (answer_to c h x)) in
    omega (arith, all, parts, length-numbers c h, length-numbers c (h ++ x ∷ []))

refusals-push : (c : Config) (h : List Item) (x : Item) → refusals c (h ++ x ∷ []) ≡ refusals c h + refused_in (option_to_list (answer_to c h x))
refusals-push c h x = ap refused_in (answers-push c h x) ∙ sum_by-append _ (answers c h) (option_to_list (answer_to c h x))

-- The tally of the items, with what one more brings about, is the tally of the items and that one.
pub tally_fed : (c : Config) (h : List Item) (x : Item) (fed : Fed) (t : Tally) → IsTallyOf c h t → IsFed c h x fed → IsTallyOf c (h ++ x ∷ []) (with_fed fed t)
tally_fed c h x fed t is told =
    let own = has_answer fed.answer t in
    let in_created = ap (λ o. length (created o)) told.answer in
    let in_deleted = ap deleted told.answer in
    let in_refused = ap (λ o. refused_in (option_to_list o)) told.answer in
    record {
      created = omega (arith, own.created, is.created, in_created, created-push c h x);
      deleted = omega (arith, own.deleted, is.deleted, in_deleted, dead-push c h x);
      refused = omega (arith, own.refused, is.refused, in_refused, refusals-push c h x);
      rows = omega (arith, own.rows, is.rows, rows-fed c h x fed told);
      bytes = omega (arith, own.bytes, is.bytes, bytes-fed c h x fed told);
    }

-- the same of an item that made nothing due
pub tally_told : (c : Config) (h : List Item) (x : Item) (o : Option Answer) (t : Tally) → IsTallyOf c h t → IsFed c h x (only_told o) → IsTallyOf c (h ++ x ∷ []) (with_answer o t)
tally_told c h x o t is told =
    let all = tally_fed c h x (only_told o) t is told in
    record { created = all.created; deleted = all.deleted; refused = all.refused; rows = omega (arith, all.rows); bytes = omega (arith, all.bytes) }

-- ---- after the ends

-- an end leaves the book
book-end : (c : Config) (h : List Item) (s : StreamId) → book c (h ++ end_of c h s) ≡ book c h
book-end c h s = go (is_open c h s)
  where
    go : (b : Bool) → book c (h ++ cond b (End s ∷ []) []) ≡ book c h
    go true = book-push c h (End s)
    go false = ap (book c) (append-nil h)

-- the ends that follow the items leave the book
book-shut : (c : Config) (h : List Item) → book c (shut c h) ≡ book c h
book-shut c h =
    let a : List Item = h ++ end_of c h A in
    let b : List Item = a ++ end_of c a B in
    let d : List Item = b ++ end_of c b C in
    sym (ap (book c) (ends-shut c h)) ∙ book-end c d D ∙ book-end c b C ∙ book-end c a B ∙ book-end c h A

-- what is said of so many lines and a tally
abbrev told : ℕ → ℕ → ℕ → ℕ → ℕ → ℕ → List ℕ
told lines created deleted refused rows bytes =
    counted (codes "lines") lines ++ counted (codes "created") created ++ counted (codes "deleted") deleted
    ++ counted (codes "refused") refused ++ counted (codes "rows") rows ++ counted (codes "bytes") bytes
    ++ counted (codes "done") lines

pub told-soaked : (c : Config) (h : List Item) (lines : ℕ) (t : Tally) → IsTallyOf c (shut c h) t → lines ≡ length h
    → told lines t.created t.deleted t.refused t.rows t.bytes ≡ soak_text c h
told-soaked c h lines t is all = joined all (is.created ∙ ap (λ (qs : List Query). length qs) same) (is.deleted ∙ ap dead same) (is.refused ∙ ap refused_in (answers-shut c h)) is.rows is.bytes
  where
    same : book c (shut c h) ≡ book c h
    same = book-shut c h

    joined : {l l' a a' b b' d d' e e' f f' : ℕ} → l ≡ l' → a ≡ a' → b ≡ b' → d ≡ d' → e ≡ e' → f ≡ f' → told l a b d e f ≡ told l' a' b' d' e' f'
    joined p q r s t u = cc

-- seven texts, appended one after another
pub appended : (o o1 o2 o3 o4 o5 o6 o7 a b d e f g i : List ℕ) → o1 ≡ o ++ a → o2 ≡ o1 ++ b → o3 ≡ o2 ++ d → o4 ≡ o3 ++ e → o5 ≡ o4 ++ f → o6 ≡ o5 ++ g → o7 ≡ o6 ++ i
    → o7 ≡ o ++ (a ++ b ++ d ++ e ++ f ++ g ++ i)
appended o o1 o2 o3 o4 o5 o6 o7 a b d e f g i e1 e2 e3 e4 e5 e6 e7 =
    e7
    ∙ ap (λ l. l ++ i) (e6 ∙ ap (λ l. l ++ g) (e5 ∙ ap (λ l. l ++ f) (e4 ∙ ap (λ l. l ++ e) (e3 ∙ ap (λ l. l ++ d) (e2 ∙ ap (λ l. l ++ b) e1)))))
    ∙ simp append_assoc
