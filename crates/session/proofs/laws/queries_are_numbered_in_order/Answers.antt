use Rattle.session.proofs.BookLaws.{book-in_order}
use Rattle.session.proofs.ViewLaws.{numbers-created}
use Rattle.session.proofs.laws.queries_are_numbered_in_order.Goals as goal

pub returns : goal.returns
returns c = record { numbers = book-in_order; told = numbers-created }
