-- What the plain engine stands for after one more item, and what the item brings about.
use Rattle.std.proofs.Common.{◌≡◌, ℕ, ◌<◌, false, Result, Ok, Err, IfOk, Some, None, List, [], ◌∷◌, ◌++◌, map, sym, ap, subst, ◌∙◌, append-nil, arith}
use Rattle.std.specs.List.{AllByRecursion}
use Rattle.as_base.specs.declared.config.Config.{Config}
use Rattle.as_base.specs.declared.item.Item.{Item}
use Rattle.as_base.specs.declared.answer.Fed.{Fed}
use Rattle.as_base.specs.declared.answer.Piece.{Piece}
use Rattle.as_base.specs.declared.message.Msg.{Msg}
use Rattle.as_base.specs.Range.{InRange}
use Rattle.as_base.specs.Times.{times}
use Rattle.as_base.proofs.TimesLaws.{times-append}
use Rattle.views.specs.View.{View}
use Rattle.views.specs.Message.{after}
use Rattle.views.specs.Query.{Query}
use Rattle.views.proofs.ListLaws.{All-push}
use Rattle.row_text.specs.RowText.{text_of as text_by}
use Rattle.session.specs.Answers.{answer_to}
use Rattle.session.specs.Book.{numbers}
use Rattle.session.specs.Message.{message}
use Rattle.session.specs.Outcome.{Adds, IsFed, created}
use Rattle.session.specs.Session.{StandsFor as SessionStands}
use Rattle.session.specs.View.{view, text_of}
use Rattle.session.proofs.NumberLaws.{number_once}
use Rattle.session.proofs.ViewLaws.{view-message, view-same, numbers-created}
use Rattle.plain_engine.specs.Store.{StandsFor as StoreStands, GrowsBy}
use Rattle.plain_engine.specs.declared.engine.PlainEngine.{PlainEngine}
use Rattle.plain_engine.specs.Engine.{StandsFor}

-- a query that an item makes has a number of its own
fresh : (c : Config) (h : List Item) (x : Item) (n : ℕ) → 0 < times n (created (answer_to c h x)) → times n (numbers c h) ≡ 0
fresh c h x n some =
    let whole = ap (times n) (sym (numbers-created c h x)) in
    let parts = times-append n (numbers c h) (created (answer_to c h x)) in
    let once = number_once c (h ++ x ∷ []) n in
    omega (arith, some, whole, parts, once)

-- where no text is another, no piece is owed
pub grows_none : (v v' : View) → ((n : ℕ) → text_by v' n ≡ text_by v n) → GrowsBy v v' []
grows_none v v' same = record { text = λ n. same n ∙ sym (append-nil (text_by v n)); known = tt }

-- what an item adds by its message, and without one
adds_by : (c : Config) (h : List Item) (x : Item) (m : Msg) (pieces : List Piece) → message c h x ≡ Some m
    → GrowsBy (view c h) (after (view c h) m) pieces → Adds c h (h ++ x ∷ []) (created (answer_to c h x)) pieces
adds_by c h x m pieces is grows =
    let next = view-message c h x m is in
    record {
      book = numbers-created c h x;
      fresh = fresh c h x;
      text = λ n. ap (λ v. text_by v n) next ∙ grows.text n;
      known = subst (λ (v : View). AllByRecursion (λ (p : Piece). 0 < times p.n (map (λ (q : Query). q.n) v.queries)) pieces) (sym next) grows.known;
    }

adds_none : (c : Config) (h : List Item) (x : Item) → message c h x ≡ None → Adds c h (h ++ x ∷ []) (created (answer_to c h x)) []
adds_none c h x is = record {
  book = numbers-created c h x;
  fresh = fresh c h x;
  text = λ n. ap (λ v. text_by v n) (view-same c h x is) ∙ sym (append-nil (text_of c h n));
  known = tt;
}

-- what an item brings about by its message, and without one
pub fed_by : (c : Config) (h : List Item) (x : Item) (m : Msg) (fed : Fed) → message c h x ≡ Some m → fed.answer ≡ answer_to c h x
    → GrowsBy (view c h) (after (view c h) m) fed.pieces → IsFed c h x fed
fed_by c h x m fed is answer grows = record {
  answer = answer;
  adds = subst (λ a. Adds c h (h ++ x ∷ []) (created a) fed.pieces) (sym answer) (adds_by c h x m fed.pieces is grows);
}

pub fed_none : (c : Config) (h : List Item) (x : Item) (fed : Fed) → message c h x ≡ None → fed.answer ≡ answer_to c h x → fed.pieces ≡ [] → IsFed c h x fed
fed_none c h x fed is answer none = record {
  answer = answer;
  adds = subst (λ pieces. Adds c h (h ++ x ∷ []) (created fed.answer) pieces) (sym none)
      (subst (λ a. Adds c h (h ++ x ∷ []) (created a) []) (sym answer) (adds_none c h x is));
}

-- what the engine stands for after an item by its message, and without one
pub stands_by : (e : PlainEngine) (h : List Item) (x : Item) (m : Msg) → e.stopped ≡ false → AllByRecursion InRange h → InRange x → message e.config h x ≡ Some m
    → SessionStands e.config e.session (h ++ x ∷ []) → StoreStands e.store (after (view e.config h) m) → StandsFor e (h ++ x ∷ [])
stands_by e h x m going ranged range is session store = record {
  going = going;
  ranged = All-push InRange h x ranged range;
  session = session;
  store = subst (StoreStands e.store) (sym (view-message e.config h x m is)) store;
}

pub stands_none : (e : PlainEngine) (h : List Item) (x : Item) → e.stopped ≡ false → AllByRecursion InRange h → InRange x → message e.config h x ≡ None
    → SessionStands e.config e.session (h ++ x ∷ []) → StoreStands e.store (view e.config h) → StandsFor e (h ++ x ∷ [])
stands_none e h x going ranged range is session store = record {
  going = going;
  ranged = All-push InRange h x ranged range;
  session = session;
  store = subst (StoreStands e.store) (sym (view-same e.config h x is)) store;
}

-- what holds of a value by two facts
pub ok_with : {T E : Type 0} {P Q R : T → Type 0} (r : Result T E) → ((x : T) → P x → Q x → R x) → IfOk r P → IfOk r Q → IfOk r R
ok_with (Ok x) f p q = f x p q
ok_with (Err e) f p q = tt
