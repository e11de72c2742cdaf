-- What the plain engine stands for.
use Rattle.std.specs.Prelude.{◌≡◌, false, List}
use Rattle.std.specs.List.{AllByRecursion}
use Rattle.as_base.specs.declared.item.Item.{Item}
use Rattle.as_base.specs.Range.{InRange}
use Rattle.session.specs.Session.{StandsFor as SessionStands}
use Rattle.session.specs.View.{view}
use Rattle.plain_engine.specs.Store.{StandsFor as StoreStands}
use Rattle.plain_engine.specs.declared.engine.PlainEngine.{PlainEngine}

-- It goes on; its session stands for the items, whose numbers are in range, and its store for the view that they give.
pub record StandsFor (e : PlainEngine) (h : List Item) : Type 0 where
  pub going : e.stopped ≡ false
  pub ranged : AllByRecursion InRange h
  pub session : SessionStands e.config e.session h
  pub store : StoreStands e.store (view e.config h)
