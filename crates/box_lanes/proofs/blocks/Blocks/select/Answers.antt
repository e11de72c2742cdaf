use Rattle.std.proofs.Common.{◌≡◌, ℕ, suc, ◌+◌, ◌<◌, [], ◌++◌, List, length, take, drop, get_or, set, sym, ap, ap₂, ◌∙◌, arith, length-set}
use Rattle.std.specs.Simd.Lanes.{zip2}
use Rattle.std.proofs.lemmas.List.{get_or_default}
use Rattle.queryset_lanes.specs.Words.{slots_of}
use Rattle.box_lanes.specs.Columns.{selected}
use Rattle.box_lanes.proofs.BlockLaws.{length-joined_eight, word_selected, zip_at, zip_set, zip_all, slots_of-selected}
use Rattle.box_lanes.proofs.blocks.Blocks.select.Goals as goal

pub loop-place-preserved : goal.loop-place-preserved
loop-place-preserved c =
    let blocks = c.self.inside.blocks.items in
    let first = c.words-words.result in
    let words = c.loop-place.words in
    let k = c.loop-place.place in
    let f = word_selected c.args.g.now in
    let before = c.loop-place.invariant.so_far in
    let place : k < length blocks = omega (arith, c.self.invariant.eight, c.loop-place-test.true) in
    let within : k < length first = omega (arith, c.words-words.ensures.words.eight, c.loop-place-test.true) in
    let block = c.index.ensures ∙ get_or_default blocks k c.index.result.now [] place in
    let read = ap (λ (ws : List ℕ). get_or ws k 0) before ∙ zip_at f blocks first k place within in
    let next : suc k ≡ k + 1 = omega arith in
    record {
      eight = length-set words k c.select.result ∙ c.loop-place.invariant.eight;
      so_far = ap (λ (r : ℕ). set words k r) (c.select.ensures.value ∙ ap₂ f block read)
          ∙ ap (λ (ws : List ℕ). set ws k (f (get_or blocks k []) (get_or first k 0))) before
          ∙ zip_set f blocks first k [] place within
          ∙ ap (λ n. zip2 f (take n blocks) (take n first) ++ drop n first) next;
    }

pub returns-clause-slots : goal.returns-clause-slots
returns-clause-slots c = (ap length (sym c.self.view_is) ∙ length-joined_eight c.self.inside.blocks.items c.self.invariant, c.words-words.ensures.slots)

pub returns-clause-value : goal.returns-clause-value
returns-clause-value c =
    let blocks = c.self.inside.blocks.items in
    let first = c.words-words.result in
    let g = c.args.g.now in
    let all : c.loop-place.place ≡ 8 = omega (arith, c.loop-place-test.false, c.loop-place.auto.place-end) in
    c.from_words.ensures
    ∙ ap slots_of (c.loop-place.invariant.so_far ∙ zip_all (word_selected g) blocks first c.loop-place.place (c.self.invariant.eight ∙ sym all) (c.words-words.ensures.words.eight ∙ sym all))
    ∙ slots_of-selected blocks first g c.self.invariant.each (c.self.invariant.eight ∙ sym c.words-words.ensures.words.eight)
    ∙ ap₂ (λ xs rs. selected xs rs g) c.self.view_is c.words-words.ensures.value
