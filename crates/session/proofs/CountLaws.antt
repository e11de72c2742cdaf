-- How many of the queries that items made they have deleted: one more for an item that is answered so, else as before.
use Rattle.std.proofs.Common.{◌≡◌, ℕ, ◌+◌, ◌≤◌, ◌&&◌, ◌||◌, not, eqb, Bool, true, false, true≢false, cond, Result, Ok, Err, Option, Some, None, is_none, List, [], ◌∷◌, ◌++◌, map, length, count_by, refl, sym, ap, ◌∙◌, ⊎_elim, arith}
use Rattle.std.specs.List.{list_any}
use Rattle.std.specs.Result.{result_ok, result_err}
use Rattle.std.proofs.lemmas.List.Sums.{sum_by-append, sum_by-cons}
use Rattle.as_base.specs.declared.config.Config.{Config}
use Rattle.as_base.specs.declared.stream.StreamId.{StreamId}
use Rattle.as_base.specs.declared.item.Cause.TheVariants.{Long, Form}
use Rattle.as_base.specs.declared.item.Item.{Item}
use Rattle.as_base.specs.declared.item.Item.TheVariants.{Rec, Mark, End, Create, Delete, Bad}
use Rattle.as_base.specs.declared.query.Plan.{Plan}
use Rattle.as_base.specs.declared.answer.Answer.{Answer}
use Rattle.as_base.specs.declared.answer.Word.{Word}
use Rattle.as_base.specs.declared.answer.Word.TheVariants as word
use Rattle.as_base.specs.Config.{is_configured}
use Rattle.as_base.specs.Times.{times}
use Rattle.query_text.specs.declared.ast.Ast.{Ast}
use Rattle.query_text.specs.Reading.{read_text}
use Rattle.query_plan.specs.declared.planning.Misfit.{Misfit}
use Rattle.query_plan.specs.Planning.{plan, or_word, plan_of_reading}
use Rattle.views.specs.Query.{Query, opened, is_live, closed}
use Rattle.session.specs.Acceptance.{has_ended, changelog_time}
use Rattle.session.specs.Answers.{answered, acceptance_word, answer_to}
use Rattle.session.specs.Book.{book, has_slot, with_query, stream_refusal, refusal, creation_refusal}
use Rattle.session.specs.Planned.{plan_for}
use Rattle.session.proofs.BookLaws.{book-push}
use Rattle.session.proofs.DecisionLaws.{refused-answer, accepted-answer}
use Rattle.session.proofs.NumberLaws.{number_once}
use Rattle.session.proofs.ViewLaws.{refused-book, refused_or_not, deletion-accepted}

-- how many deletions a word tells of
abbrev pub deleted_by : Word → ℕ
deleted_by (word.Deleted n at) = 1
deleted_by _ = 0

-- how many deletions an answer, if there is one, tells of
abbrev pub deleted : Option Answer → ℕ
deleted None = 0
deleted (Some a) = deleted_by a.word

-- how many of the queries are deleted
abbrev pub dead : List Query → ℕ
dead queries = count_by (λ (q : Query). not q.live) queries

-- ---- no refusal tells of a deletion

abbrev deleted_of : Option Word → ℕ
deleted_of None = 0
deleted_of (Some w) = deleted_by w

unplanned-none_deleted : (many : ℕ) (reading : Result Ast ℕ) → deleted_of (result_err (plan_of_reading many reading)) ≡ 0
unplanned-none_deleted many (Err place) = refl
unplanned-none_deleted many (Ok tree) = go (plan many tree)
  where
    go : (p : Result Plan Misfit) → deleted_of (result_err (or_word p)) ≡ 0
    go (Err Misfit.Stranger) = refl
    go (Err Misfit.Twin) = refl
    go (Err Misfit.Window) = refl
    go (Ok plan) = refl

stream-none_deleted : (c : Config) (h : List Item) (s : StreamId) (behind : Bool) (last : Word) → deleted_by last ≡ 0 → deleted_of (stream_refusal c h s behind last) ≡ 0
stream-none_deleted c h s behind last e = go (is_configured c s) (has_ended c h s) behind
  where
    go : (a b d : Bool) → deleted_of (cond (not a) (Some word.Stranger) (cond b (Some word.Ended) (cond d (Some last) None))) ≡ 0
    go false b d = refl
    go true true d = refl
    go true false true = e
    go true false false = refl

refused-none_deleted : (c : Config) (h : List Item) (x : Item) → deleted_of (refusal c h x) ≡ 0
refused-none_deleted c h (Rec g) = stream-none_deleted c h g.stream _ word.Late refl
refused-none_deleted c h (Mark s t) = stream-none_deleted c h s _ word.Back refl
refused-none_deleted c h (End s) = stream-none_deleted c h s false word.Ended refl
refused-none_deleted c h (Create text) = go (result_err (plan_for c text)) (has_slot c (book c h)) (unplanned-none_deleted c.streams (read_text text))
  where
    go : (o : Option Word) (free : Bool) → deleted_of o ≡ 0 → deleted_of (creation_refusal o free) ≡ 0
    go (Some w) free e = e
    go None true e = refl
    go None false e = refl
refused-none_deleted c h (Delete n) = go (list_any (is_live n) (book c h))
  where
    go : (b : Bool) → deleted_of (cond b None (Some word.Unknown)) ≡ 0
    go true = refl
    go false = refl
refused-none_deleted c h (Bad Long) = refl
refused-none_deleted c h (Bad Form) = refl

-- ---- a deletion closes one query

-- closing makes dead those that live and have the number
dead-closed : (n at : ℕ) (queries : List Query) → dead (map (closed n at) queries) ≡ dead queries + count_by (is_live n) queries
dead-closed n at [] = refl
dead-closed n at (q ∷ queries) =
    omega (
      arith,
      go (eqb q.n n) q.live refl,
      dead-closed n at queries,
      sum_by-cons (λ (p : Query). cond (not p.live) 1 0) (closed n at q) (map (closed n at) queries),
      sum_by-cons (λ (p : Query). cond (not p.live) 1 0) q queries,
      sum_by-cons (λ (p : Query). cond (is_live n p) 1 0) q queries,
    )
  where
    go : (b l : Bool) → q.live ≡ l → cond (not (cond (b && l) (record { n = q.n; plan = q.plan; from = q.from; to = at; live = false }) q).live) 1 0 ≡ cond (not l) 1 0 + cond (b && l) 1 0
    go true true e = refl
    go true false e = ap (λ l. cond (not l) 1 0) e
    go false l e = omega (arith, ap {B = ℕ} (λ l. cond (not l) 1 0) e)

-- those that live and have the number are among those that have it
live-among : (n : ℕ) (queries : List Query) → count_by (is_live n) queries ≤ times n (map (λ (q : Query). q.n) queries)
live-among n [] = omega arith
live-among n (q ∷ queries) =
    omega (
      arith,
      go (eqb q.n n) q.live,
      live-among n queries,
      sum_by-cons (λ (p : Query). cond (is_live n p) 1 0) q queries,
      sum_by-cons (λ i. cond (eqb i n) 1 0) q.n (map (λ (p : Query). p.n) queries),
    )
  where
    go : (b l : Bool) → ◌≤◌ (cond (b && l) 1 0) (cond b 1 0)
    go true true = omega arith
    go true false = omega arith
    go false l = omega arith

live-some : (n : ℕ) (queries : List Query) → list_any (is_live n) queries ≡ true → 1 ≤ count_by (is_live n) queries
live-some n [] e = absurd (true≢false (sym e))
live-some n (q ∷ queries) e = omega (arith, go (is_live n q) e (live-some n queries), sum_by-cons (λ (p : Query). cond (is_live n p) 1 0) q queries)
  where
    go : (b : Bool) → (b || list_any (is_live n) queries) ≡ true → (list_any (is_live n) queries ≡ true → 1 ≤ count_by (is_live n) queries) → 1 ≤ cond b 1 0 + count_by (is_live n) queries
    go true e more = omega arith
    go false e more = omega (arith, more e)

-- ---- what an item does

opened-dead : (c : Config) (h : List Item) (free : Bool) (p : Option Plan) → dead (cond free (with_query (book c h) p (changelog_time c h)) (book c h)) ≡ dead (book c h)
opened-dead c h false p = refl
opened-dead c h true None = refl
opened-dead c h true (Some plan) =
    let more = sum_by-append (λ (q : Query). cond (not q.live) 1 0) (book c h) (opened (length (book c h) + 1) plan (changelog_time c h) ∷ []) in
    omega (arith, more)

accepted-dead : (c : Config) (h : List Item) (x : Item) → refusal c h x ≡ None → dead (book c (h ++ x ∷ [])) ≡ dead (book c h) + deleted (answered h (acceptance_word c h x))
accepted-dead c h (Rec g) e = omega (arith, ap dead (book-push c h (Rec g)))
accepted-dead c h (Mark s t) e = omega (arith, ap dead (book-push c h (Mark s t)))
accepted-dead c h (End s) e = omega (arith, ap dead (book-push c h (End s)))
accepted-dead c h (Create text) e = omega (arith, ap dead (book-push c h (Create text)), opened-dead c h (has_slot c (book c h)) (result_ok (plan_for c text)))
accepted-dead c h (Delete n) e =
    let some = live-some n (book c h) (deletion-accepted (list_any (is_live n) (book c h)) e) in
    let once = number_once c h n in
    omega (arith, ap dead (book-push c h (Delete n)), dead-closed n (changelog_time c h) (book c h), live-among n (book c h), some, once)
accepted-dead c h (Bad cause) e = absurd (true≢false (sym (ap is_none e)))

-- An item deletes just as many queries as its answer tells of.
pub dead-push : (c : Config) (h : List Item) (x : Item) → dead (book c (h ++ x ∷ [])) ≡ dead (book c h) + deleted (answer_to c h x)
dead-push c h x =
    ⊎_elim
    (λ r.
    let none : deleted_by r.0 ≡ 0 = sym (ap deleted_of r.1) ∙ refused-none_deleted c h x in
    omega (arith, ap dead (refused-book c h x r.0 r.1), ap deleted (refused-answer c h x r.0 r.1), none))
    (λ e. omega (arith, accepted-dead c h x e, ap deleted (accepted-answer c h x e)))
    (refused_or_not (refusal c h x))
