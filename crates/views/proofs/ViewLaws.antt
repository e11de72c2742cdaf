-- What messages make of a view is a view.
use Rattle.std.proofs.Common.{◌≡◌, ℕ, ◌^◌, ◌≤◌, ◌<◌, ◌&&◌, ◌||◌, nat_lt, eqb, Bool, true, false, cond, List, [], ◌∷◌, ◌++◌, refl, sym, ap, subst, ◌∙◌, append-nil, arith}
use Rattle.std.specs.List.{filter, range_with_len, AllByRecursion}
use Rattle.std.proofs.lemmas.Bool.{eqb-true}
use Rattle.std.proofs.lemmas.Bool.Decides.{nat_tests}
use Rattle.std.proofs.lemmas.List.Elements.{filter-append}
use Rattle.std.proofs.lemmas.List.{length-map}
use Rattle.as_base.specs.declared.item.Record.{Record}
use Rattle.as_base.specs.declared.message.Change.TheVariants.{Opened, Closed}
use Rattle.as_base.specs.declared.message.Msg.{Msg}
use Rattle.as_base.specs.declared.message.Msg.TheVariants as msg
use Rattle.as_base.specs.declared.stream.StreamId.{StreamId}
use Rattle.as_base.specs.declared.stream.StreamId.TheVariants.{A, B, C, D}
use Rattle.as_base.specs.Stream.{place_of}
use Rattle.views.specs.Query.{Query, opened, is_live, closed}
use Rattle.views.specs.View.{View, watermark_of, is_of}
use Rattle.views.specs.Order.{comes_before, InOrder}
use Rattle.views.specs.Message.{after, RecordFollows, Follows}
use Rattle.views.specs.IsView.{IsQuery, IsView, first_view}
use Rattle.views.proofs.ListLaws.{All-by, All-push, All-both, All-filter, All-map, All-passed}
use Rattle.views.proofs.NumberLaws.{IsNumbered-push, ended, closed-numbers}
use Rattle.views.proofs.OrderLaws.{InOrder-push}

comes : (a b m n : ℕ) → a ≤ b → m < n → (nat_lt a b || (eqb a b && nat_lt m n)) ≡ true
comes a b m n h k = grind (arith, nat_tests)

-- the records of a stream with one more, which follows
pub ordered-push : (v : View) (r : Record) → IsView v → RecordFollows v r → (s : StreamId) → InOrder (filter (is_of s) (v.records ++ r ∷ []))
ordered-push v r is f s = subst InOrder (sym (filter-append (is_of s) v.records (r ∷ []))) (go (is_of s r) refl)
  where
    own : List Record
    own = filter (is_of s) v.records

    Behind : Record → Type 0
    Behind t = (t.seq < r.seq) × (place_of t.given.stream ≡ place_of r.given.stream → t.given.time ≤ r.given.time)

    behind : AllByRecursion (λ (t : Record). ((t.seq < r.seq) × (place_of t.given.stream ≡ place_of r.given.stream → t.given.time ≤ r.given.time)) × (is_of s t ≡ true)) (filter (is_of s) v.records)
    behind =
        All-both (λ (t : Record). (t.seq < r.seq) × (place_of t.given.stream ≡ place_of r.given.stream → t.given.time ≤ r.given.time)) (λ t. is_of s t ≡ true) (filter (is_of s) v.records)
        (All-filter (λ (t : Record). (t.seq < r.seq) × (place_of t.given.stream ≡ place_of r.given.stream → t.given.time ≤ r.given.time)) (is_of s) v.records
        (All-both (λ (t : Record). t.seq < r.seq) (λ (t : Record). place_of t.given.stream ≡ place_of r.given.stream → t.given.time ≤ r.given.time) v.records f.line f.stream))
        (All-passed (is_of s) v.records)

    go : (b : Bool) → is_of s r ≡ b → InOrder (filter (is_of s) v.records ++ cond b (r ∷ []) [])
    go false e = subst InOrder (sym (append-nil (filter (is_of s) v.records))) (is.ordered s)
    go true e =
        InOrder-push (filter (is_of s) v.records) r (is.ordered s)
        (All-by (λ (t : Record). ((t.seq < r.seq) × (place_of t.given.stream ≡ place_of r.given.stream → t.given.time ≤ r.given.time)) × (is_of s t ≡ true)) (λ t. comes_before t r ≡ true)
        (λ t h. comes t.given.time r.given.time t.seq r.seq (h.0.1 (eqb-true (place_of t.given.stream) (place_of s) h.1 ∙ sym (eqb-true (place_of r.given.stream) (place_of s) e))) h.0.0)
        (filter (is_of s) v.records) behind)

closed-made : (n at : ℕ) (q : Query) → at ≤ 2 ^ 62 → IsQuery q → IsQuery (closed n at q)
closed-made n at q most made = go (is_live n q)
  where
    go : (b : Bool) → IsQuery (cond b (ended at q) q)
    go true = record { begins = made.begins; ends = most; lasts = λ h. cc; canonical = made.canonical; fits = made.fits }
    go false = made

pub IsView-first : IsView first_view
IsView-first = record {
  four = refl;
  most = λ s. low s;
  numbered = refl;
  made = tt;
  timed = tt;
  ordered = λ s. tt;
}
  where
    low : (s : StreamId) → watermark_of first_view s ≤ 2 ^ 62
    low A = omega arith
    low B = omega arith
    low C = omega arith
    low D = omega arith

pub IsView-after : (v : View) (m : Msg) → IsView v → Follows v m → IsView (after v m)
IsView-after v (msg.Rec r) is f = record {
  four = is.four;
  most = is.most;
  numbered = is.numbered;
  made = is.made;
  timed = All-push (λ (r : Record). r.given.time < 2 ^ 62) v.records r is.timed f.time;
  ordered = ordered-push v r is f;
}
IsView-after v (msg.Advance wm) is f = record {
  four = f.four;
  most = f.most;
  numbered = is.numbered;
  made = is.made;
  timed = is.timed;
  ordered = is.ordered;
}
IsView-after v (msg.Change (Opened n slot at plan)) is f = record {
  four = is.four;
  most = is.most;
  numbered = IsNumbered-push 1 v.queries (opened n plan at) is.numbered (let e = f.1 in omega (arith, e));
  made = All-push IsQuery v.queries (opened n plan at) is.made (record { begins = f.0.most; ends = omega arith; lasts = λ h. refl; canonical = (f.2).canonical; fits = (f.2).fits });
  timed = is.timed;
  ordered = is.ordered;
}
IsView-after v (msg.Change (Closed n slot at)) is f = record {
  four = is.four;
  most = is.most;
  numbered = closed-numbers n at v.queries ∙ is.numbered ∙ ap (range_with_len 1) (sym (length-map v.queries (closed n at)));
  made = All-map IsQuery (closed n at) v.queries (All-by IsQuery (λ q. IsQuery (closed n at q)) (λ q made. closed-made n at q f.0.most made) v.queries is.made);
  timed = is.timed;
  ordered = is.ordered;
}
