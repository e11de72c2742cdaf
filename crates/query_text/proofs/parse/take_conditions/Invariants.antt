use Rattle.std.proofs.Common.{◌≡◌, length}
use Rattle.query_text.specs.Places.{read_from}
use Rattle.query_text.specs.Places.Place.{AtLead}
use Rattle.query_text.specs.Parsing.{query_with}
use Rattle.query_text.proofs.parse.take_conditions.Given as goal

abbrev pub invariant-loop-head : goal.invariant-loop-head
invariant-loop-head l =
    read_from (AtLead (query_with l.head l.fn.left.items l.fn.right.items)) l.fn.cursor ≡ read_from (AtLead (query_with l.head l.left.items l.right.items)) l.cursor

abbrev pub decreases-loop-head : goal.decreases-loop-head
decreases-loop-head l = length l.cursor
