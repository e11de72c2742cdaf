use Rattle.std.proofs.Common.{OnOk, sym, subst}
use Rattle.as_base.specs.declared.message.Change.{Change}
use Rattle.as_base.specs.declared.message.Msg.TheVariants as msg
use Rattle.views.specs.View.{View}
use Rattle.views.specs.Message.{after, Follows}
use Rattle.views.specs.IsView.{IsView}
use Rattle.plain_engine.specs.Store.{StandsFor}
use Rattle.plain_engine.proofs.store.Store.change.Goals as goal

pub returns-in-Opened : goal.returns-in-Opened
returns-in-Opened c =
    subst
    (λ (m : Change). (v : View) → IsView v → Follows v (msg.Change m) → StandsFor c.args.self.now v → OnOk c.open.result (StandsFor c.open.new.self (after v (msg.Change m))))
    (sym c.in-Opened.is)
    (λ v is f stands. c.open.ensures v c.in-Opened.slot is f stands)

pub returns-in-Closed : goal.returns-in-Closed
returns-in-Closed c =
    subst
    (λ (m : Change). (v : View) → IsView v → Follows v (msg.Change m) → StandsFor c.args.self.now v → StandsFor c.close.new.self (after v (msg.Change m)))
    (sym c.in-Closed.is)
    (λ v is f stands. c.close.ensures v c.in-Closed.slot is f stands)
