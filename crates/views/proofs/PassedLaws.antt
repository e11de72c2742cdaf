-- Which windows a query's watermark has passed, before and after each message.
use Rattle.std.proofs.Common.{◌≡◌, inl, inr, ℕ, ◌*◌, ◌^◌, ◌≤◌, ◌<◌, min, nat_lt, nat_le, Bool, true, false, cond, List, get_or, refl, sym, ap, ◌∙◌, arith}
use Rattle.std.proofs.lemmas.Bool.{and_parts, cases_lt, leb-true, le-leb, lt-leb, ltb-true}
use Rattle.std.proofs.lemmas.Bool.Decides.{nat_tests}
use Rattle.as_base.specs.declared.item.Record.{Record}
use Rattle.as_base.specs.declared.message.Change.TheVariants.{Closed}
use Rattle.as_base.specs.declared.message.Msg.TheVariants as msg
use Rattle.as_base.specs.Stream.{place_of}
use Rattle.as_base.specs.declared.stream.StreamId.{StreamId}
use Rattle.as_base.specs.Windows.{start_of, end_of, in_window}
use Rattle.views.specs.Query.{Query, is_live, closed}
use Rattle.views.specs.View.{View, watermark_of, is_mine, query_watermark}
use Rattle.views.specs.Passed.{is_passed}
use Rattle.views.specs.Message.{after, RecordFollows, MarksFollow, ChangeFollows}
use Rattle.views.specs.IsView.{IsQuery}
use Rattle.views.proofs.NumberLaws.{ended}
use Rattle.views.proofs.GivenLaws.{mine-parts, at_mark, lasts-live}

mul_mono : (a b c : ℕ) → a ≤ b → a * c ≤ b * c
mul_mono a b c h = grind arith

least_le : (a b t w : ℕ) → a ≤ b → min b t ≤ w → min a t ≤ w
least_le a b t w low h = omega (arith, low, h)

-- the windows before a passed one are passed
pub passed-earlier : (v : View) (q : Query) (j k : ℕ) → j ≤ k → is_passed v q k ≡ true → is_passed v q j ≡ true
passed-earlier v q j k low h =
    let ends : end_of q.plan.win j ≤ end_of q.plan.win k = let m = mul_mono j k q.plan.win.slide low in omega (arith, m) in
    le-leb (min (end_of q.plan.win j) q.to) (query_watermark v q)
    (least_le (end_of q.plan.win j) (end_of q.plan.win k) q.to (query_watermark v q) ends (leb-true (min (end_of q.plan.win k) q.to) (query_watermark v q) h))

least_up : (a b c d : ℕ) → a ≤ c → b ≤ d → min a b ≤ min c d
least_up a b c d h k = omega (arith, h, k)

-- no query's watermark falls
pub watermark-advance : (v : View) (marks : List ℕ) (q : Query) → MarksFollow v marks → query_watermark v q ≤ query_watermark (after v (msg.Advance marks)) q
watermark-advance v marks q f = least_up (watermark_of v q.plan.left) (watermark_of v q.plan.right) (get_or marks (place_of q.plan.left) 0) (get_or marks (place_of q.plan.right) 0) (f.up q.plan.left) (f.up q.plan.right)

below_both : (a b c : ℕ) → a ≤ b → b ≤ c → a ≤ c
below_both a b c h k = omega (arith, h, k)

-- what is passed stays passed
pub passed-advance : (v : View) (marks : List ℕ) (q : Query) (k : ℕ) → MarksFollow v marks → is_passed v q k ≡ true → is_passed (after v (msg.Advance marks)) q k ≡ true
passed-advance v marks q k f h =
    le-leb (min (end_of q.plan.win k) q.to) (query_watermark (after v (msg.Advance marks)) q)
    (below_both (min (end_of q.plan.win k) q.to) (query_watermark v q) (query_watermark (after v (msg.Advance marks)) q)
    (leb-true (min (end_of q.plan.win k) q.to) (query_watermark v q) h) (watermark-advance v marks q f))

above_mark : (m t e to : ℕ) → m ≤ t → t < e → t < to → m < min e to
above_mark m t e to h k l = omega (arith, h, k, l)

-- a query's watermark is not above those of its two streams
pub left_least : (v : View) (q : Query) → query_watermark v q ≤ watermark_of v q.plan.left
left_least v q = not_above (watermark_of v q.plan.left) (watermark_of v q.plan.right)
  where
    not_above : (a b : ℕ) → min a b ≤ a
    not_above a b = omega arith

pub right_least : (v : View) (q : Query) → query_watermark v q ≤ watermark_of v q.plan.right
right_least v q = not_above (watermark_of v q.plan.left) (watermark_of v q.plan.right)
  where
    not_above : (a b : ℕ) → min a b ≤ b
    not_above a b = omega arith

-- no window that holds a new record of a query's own is passed
pub passed-record : (v : View) (r : Record) (q : Query) (s : StreamId) (k : ℕ) → query_watermark v q ≤ watermark_of v s → RecordFollows v r → is_mine q s r ≡ true → in_window q.plan.win k r.given.time ≡ true
    → is_passed v q k ≡ false
passed-record v r q s k least f own inside =
    let parts = mine-parts q s r own in
    lt-leb (min (end_of q.plan.win k) q.to) (query_watermark v q)
    (above_mark (query_watermark v q) r.given.time (end_of q.plan.win k) q.to
    (below_both (query_watermark v q) (watermark_of v s) r.given.time least (at_mark v r s f parts.0))
    (ltb-true r.given.time (end_of q.plan.win k) (and_parts (nat_le (start_of q.plan.win k) r.given.time) (nat_lt r.given.time (end_of q.plan.win k)) inside).1)
    parts.1)

-- ---- a query that is closed

-- the least of two watermarks is before a change too, if it is neither none nor at the end of time
least_before : (a b at : ℕ) → (0 < a → a < 2 ^ 62 → a < at) → (0 < b → b < 2 ^ 62 → b < at) → 0 < min a b → min a b < 2 ^ 62 → min a b < at
least_before a b at f g some high = elim (cases_lt a b) [ inl low ↦ omega (arith, low, f (omega (arith, some)) (omega (arith, low, high))) | inr low ↦ omega (arith, low, g (omega (arith, some)) (omega (arith, low, high))) ]

same_test : (e at m : ℕ) → 0 < at → at ≤ 2 ^ 62 → (0 < m → m < 2 ^ 62 → m < at) → nat_le (min e at) m ≡ nat_le (min e (2 ^ 62)) m
same_test e at m begun most before = elim (cases_lt m at) [ inl low ↦ at_low low | inr high ↦ at_high high ]
  where
    at_low : m < at → nat_le (min e at) m ≡ nat_le (min e (2 ^ 62)) m
    at_low low = grind (arith, nat_tests)

    at_high : at ≤ m → nat_le (min e at) m ≡ nat_le (min e (2 ^ 62)) m
    at_high high = grind (arith, nat_tests)

-- a query that ends at a change after time 0 has passed the same windows
pub passed-ended : (v : View) (at : ℕ) (q : Query) (k : ℕ) → q.to ≡ 2 ^ 62 → ChangeFollows v at → 0 < at → is_passed v (ended at q) k ≡ is_passed v q k
passed-ended v at q k lasts f begun =
    same_test (end_of q.plan.win k) at (query_watermark v q) begun f.most (least_before (watermark_of v q.plan.left) (watermark_of v q.plan.right) at (f.marks q.plan.left) (f.marks q.plan.right))
    ∙ sym (ap (λ t. nat_le (min (end_of q.plan.win k) t) (query_watermark v q)) lasts)

sooner : (e at m : ℕ) → at ≤ 2 ^ 62 → min e (2 ^ 62) ≤ m → min e at ≤ m
sooner e at m most h = omega (arith, most, h)

-- what is passed stays passed
pub passed-closed : (v : View) (n slot at : ℕ) (q : Query) (k : ℕ) → IsQuery q → ChangeFollows v at → is_passed v q k ≡ true → is_passed (after v (msg.Change (Closed n slot at))) (closed n at q) k ≡ true
passed-closed v n slot at q k made f h = go (is_live n q) refl
  where
    go : (b : Bool) → is_live n q ≡ b → is_passed (after v (msg.Change (Closed n slot at))) (cond b (ended at q) q) k ≡ true
    go true e =
        le-leb (min (end_of q.plan.win k) at) (query_watermark v q)
        (sooner (end_of q.plan.win k) at (query_watermark v q) f.most
        (leb-true (min (end_of q.plan.win k) (2 ^ 62)) (query_watermark v q) (ap (λ t. nat_le (min (end_of q.plan.win k) t) (query_watermark v q)) (sym (lasts-live n q made e)) ∙ h)))
    go false e = h
