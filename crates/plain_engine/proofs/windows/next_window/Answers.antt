use Rattle.std.proofs.Common.{Some, max, nat_le, drop, sym, ap, ◌∙◌, arith}
use Rattle.as_base.specs.declared.item.Given.{Given}
use Rattle.as_base.specs.Range.{IsTime}
use Rattle.as_base.specs.Windows.{start_of}
use Rattle.plain_engine.proofs.WalkLaws.{head-none, head-some, head-all, window-none, window-some, next-start, first-passes}
use Rattle.std.proofs.lemmas.Bool.{leb-true}
use Rattle.plain_engine.proofs.windows.next_window.Goals as goal

pub returns-in_err-first-clause-value : goal.returns-in_err-first-clause-value
returns-in_err-first-clause-value c =
    c.from_residual.ensures
    ∙ sym (window-none c.args.win.now c.args.k c.args.records.now c.requires.fits (sym c.from_time.ensures.value ∙ head-none c.from_time.result.now c.in_err-first.ensures.value))

pub first_window-requires-clause-time : goal.first_window-requires-clause-time
first_window-requires-clause-time c =
    head-all (λ (g : Given). IsTime g.time) (λ (g : Given). nat_le (start_of c.args.win.now c.args.k) g.time) c.args.records.now c.from_time.result.now c.in_ok-first.first.now
    c.from_time.ensures.value c.in_ok-first.ensures.value c.requires.waiting.times

pub returns-clause-value : goal.returns-clause-value
returns-clause-value c =
    let e = sym c.from_time.ensures.value ∙ head-some c.from_time.result.now c.in_ok-first.first.now c.in_ok-first.ensures.value in
    ap (λ n. Some n) (c.max.ensures ∙ ap (λ n. max n c.args.k) c.first_window.ensures)
    ∙ sym (window-some c.args.win.now c.args.k c.args.records.now c.in_ok-first.first.now (drop 1 c.from_time.result.now) c.requires.fits c.requires.waiting.order e)

pub returns-clause-start : goal.returns-clause-start
returns-clause-start c =
    let w = c.args.win.now in
    let g = c.in_ok-first.first.now in
    let e = sym c.from_time.ensures.value ∙ head-some c.from_time.result.now g c.in_ok-first.ensures.value in
    let low = leb-true (start_of w c.args.k) g.time (first-passes (λ (g : Given). nat_le (start_of w c.args.k) g.time) c.args.records.now g (drop 1 c.from_time.result.now) e) in
    let at = ap (start_of w) (c.max.ensures ∙ ap (λ n. max n c.args.k) c.first_window.ensures) in
    let start = next-start w c.args.k g.time c.requires.fits low in
    let time =
    head-all (λ (g : Given). IsTime g.time) (λ (g : Given). nat_le (start_of w c.args.k) g.time) c.args.records.now c.from_time.result.now g
    c.from_time.ensures.value c.in_ok-first.ensures.value c.requires.waiting.times in
    omega (arith, at, start, time)
