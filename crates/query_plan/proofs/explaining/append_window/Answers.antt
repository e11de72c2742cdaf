use Rattle.std.proofs.Common.{◌∷◌, ◌++◌, codes, decimal}
use Rattle.query_text.specs.declared.tree.Window.{Window}
use Rattle.query_text.specs.Spelling.{window_words}
use Rattle.as_words.specs.Words.{spaced}
use Rattle.as_words.proofs.AppendsLaws.{AppendsPrefix-after, AppendsPrefix-stopped}
use Rattle.query_plan.proofs.TextLaws.{appended_after, slide_words}
use Rattle.query_plan.proofs.explaining.append_window.Goals as goal

pub returns-in_err-append_spaced_decimal-in-Slide : goal.returns-in_err-append_spaced_decimal-in-Slide
returns-in_err-append_spaced_decimal-in-Slide c =
    let size = c.in-Slide.size in
    let slide = c.in-Slide.slide in
    rw c.in-Slide.is
    (AppendsPrefix-stopped c.from_residual-in_err-append_spaced_decimal-in-Slide.result c.args.out.now.items c.extend_from_slice-in-Slide.new.self.items c.append_spaced_decimal-in-Slide.new.out.items
    (codes " slide") (32 ∷ decimal size) (32 ∷ decimal slide) (spaced (window_words (Window.Slide size slide)))
    c.from_residual-in_err-append_spaced_decimal-in-Slide.ensures.0 c.in_ok-extend_from_slice-in-Slide.ensures.items (slide_words size slide) c.in_err-append_spaced_decimal-in-Slide.ensures)

pub returns-in_ok-append_spaced_decimal-in-Slide : goal.returns-in_ok-append_spaced_decimal-in-Slide
returns-in_ok-append_spaced_decimal-in-Slide c =
    let size = c.in-Slide.size in
    let slide = c.in-Slide.slide in
    let old = c.args.out.now.items in
    let now = c.extend_from_slice-in-Slide.new.self.items in
    let next = c.append_spaced_decimal-in-Slide.new.out.items in
    rw c.in-Slide.is
    (AppendsPrefix-after c.append_spaced_decimal-in-Slide-2.result old next c.append_spaced_decimal-in-Slide-2.new.out.items
    (codes " slide" ++ 32 ∷ decimal size) (32 ∷ decimal slide) (spaced (window_words (Window.Slide size slide)))
    (appended_after old now next (codes " slide") (32 ∷ decimal size) c.in_ok-extend_from_slice-in-Slide.ensures.items c.in_ok-append_spaced_decimal-in-Slide.ensures)
    (slide_words size slide) c.append_spaced_decimal-in-Slide-2.ensures)
