use Rattle.std.proofs.Common.{◌≡◌, ◌∙◌, refl, arith}
use Rattle.std.proofs.lemmas.Bool.{eq-eqb}
use Rattle.as_base.specs.Stream.{place_of}
use Rattle.views.specs.Slots.{cut_of}
use Rattle.part_state.proofs.ReaderLaws.{last-before, reader-record}
use Rattle.part_state.proofs.StandingLaws.{starts-by, epochs-by}
use Rattle.part_state.proofs.reader.Reader.take.Goals as goal

pub returns : goal.returns
returns c = λ is_there p stored epochs kept past follows was.
    let r = c.args.r.now in
    let s = r.given.stream in
    let late = last-before p r follows.stream in
    let before = was.epoch in
    let tagged = c.tag-tag.ensures s p past epochs was.tags kept (omega (arith, late, before)) refl c.requires in
    let cut = c.start_at-start.ensures p.changes epochs (omega (arith, kept, late, before)) was.cut in
    let start : c.start_at-start.result ≡ cut_of p.holders r = cut.1 ∙ starts-by p s r.given.time past c.requires in (
      record { set = tagged.2.set; start = start; epoch = tagged.2.epoch },
      reader-record p stored r s (record { tagger = c.tag-tag.new.self; cut = c.start_at-start.new.cut; slices = c.place_if.new.slices }) c.args.self.now.slices.slices c.tag-tag.result c.start_at-start.result
          (eq-eqb (place_of s) (place_of s) refl) tagged.2 start tagged.0 tagged.1 cut.0 (c.in_ok-place_if.ensures.stream ∙ was.store) was.placed was.epochs
          c.in_ok-place_if.ensures.placed c.in_ok-place_if.ensures.epochs (epochs-by p s r.given.time past c.requires),
    )
