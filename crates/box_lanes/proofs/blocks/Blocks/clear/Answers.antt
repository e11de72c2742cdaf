use Rattle.std.proofs.Common.{refl, ◌%◌, [], length, set, sym, ap, ◌∙◌, arith, None}
use Rattle.std.proofs.lemmas.List.{get_or_default}
use Rattle.box_lanes.proofs.BlockLaws.{length-joined_eight, joined-set}
use Rattle.box_lanes.proofs.blocks.Blocks.clear.Goals as goal

pub returns-clause-slots : goal.returns-clause-slots
returns-clause-slots c = ap length (sym c.self.view_is) ∙ length-joined_eight c.self.inside.blocks.items c.self.invariant

pub returns-clause-value : goal.returns-clause-value
returns-clause-value c =
    let blocks = c.self.inside.blocks.items in
    let k = c.from.result in
    let i = c.args.slot % 64 in
    let block = c.index_mut.ensures.value ∙ get_or_default blocks k c.index_mut.result.now [] (omega (arith, c.from.ensures, c.self.invariant.eight, c.requires)) in
    joined-set blocks k c.args.slot i c.clear.new.self None c.self.invariant c.requires c.from.ensures refl (c.clear.ensures.value ∙ ap (λ b. set b i None) block)
    ∙ ap (λ xs. set xs c.args.slot None) c.self.view_is
