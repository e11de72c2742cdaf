use Rattle.std.proofs.Common.{None, ◌%◌, [], get_or, sym, ap, length, ◌∙◌, arith}
use Rattle.std.proofs.lemmas.List.{get_or_default}
use Rattle.box_lanes.proofs.BlockLaws.{length-joined_eight, get_or-joined}
use Rattle.box_lanes.proofs.blocks.Blocks.bounds.Goals as goal

pub returns-clause-slots : goal.returns-clause-slots
returns-clause-slots c = ap length (sym c.self.view_is) ∙ length-joined_eight c.self.inside.blocks.items c.self.invariant

pub returns-clause-value : goal.returns-clause-value
returns-clause-value c =
    let blocks = c.self.inside.blocks.items in
    let k = c.from.result in
    let i = c.args.slot % 64 in
    let block = c.index.ensures ∙ get_or_default blocks k c.index.result.now [] (omega (arith, c.from.ensures, c.self.invariant.eight, c.requires)) in
    c.bounds.ensures.value
    ∙ ap (λ b. get_or b i None) block
    ∙ ap (λ n. get_or (get_or blocks n []) i None) c.from.ensures
    ∙ sym (get_or-joined blocks c.args.slot c.self.invariant c.requires)
    ∙ ap (λ xs. get_or xs c.args.slot None) c.self.view_is
