use Rattle.std.proofs.Common.{◌≡◌, ℕ, List, ◌++◌, ◌∙◌, ap}
use Rattle.as_base.specs.declared.query.Plan.{Plan}
use Rattle.as_words.specs.Words.{spaced}
use Rattle.query_plan.specs.Text.{verb_word, names_as, windows_as, canonical_text}
use Rattle.query_plan.proofs.TextLaws.{appended_after, stopped_at-once, stopped_at-named, stopped_at-windows, stopped_at-conds, all_parts}
use Rattle.query_plan.proofs.explaining.append_plan.Goals as goal

pub returns-in_err-extend_from_slice : goal.returns-in_err-extend_from_slice
returns-in_err-extend_from_slice c = stopped_at-once c.from_residual.result c.args.out.now.items c.extend_from_slice.new.self.items (canonical_text c.args.plan.now) c.from_residual.ensures.0 c.in_err-extend_from_slice.ensures.items

pub returns-in_err-append_names : goal.returns-in_err-append_names
returns-in_err-append_names c =
    stopped_at-named c.args.plan.now c.from_residual-in_err-append_names.result c.args.out.now.items c.extend_from_slice.new.self.items c.append_names.new.out.items
    c.from_residual-in_err-append_names.ensures.0
    (c.in_ok-extend_from_slice.ensures.items ∙ ap (λ w. c.args.out.now.items ++ w) c.verb_word.ensures) c.in_err-append_names.ensures

-- the words up to the windows, and up to the conditions
named : (p : Plan) (old verb new first : List ℕ) → verb ≡ old ++ first → first ≡ verb_word p.kind → new ≡ verb ++ spaced (names_as p.kind p)
    → new ≡ old ++ (verb_word p.kind ++ spaced (names_as p.kind p))
named p old verb new first e ef en = appended_after old verb new (verb_word p.kind) (spaced (names_as p.kind p)) (e ∙ ap (λ w. old ++ w) ef) en

pub returns-in_err-append_windows : goal.returns-in_err-append_windows
returns-in_err-append_windows c =
    let p = c.args.plan.now in
    let old = c.args.out.now.items in
    stopped_at-windows p c.from_residual-in_err-append_windows.result old c.append_names.new.out.items c.append_windows.new.out.items
    c.from_residual-in_err-append_windows.ensures.0
    (named p old c.extend_from_slice.new.self.items c.append_names.new.out.items c.verb_word.result.now c.in_ok-extend_from_slice.ensures.items c.verb_word.ensures c.in_ok-append_names.ensures)
    c.in_err-append_windows.ensures

windowed : (p : Plan) (old named new : List ℕ) → named ≡ old ++ (verb_word p.kind ++ spaced (names_as p.kind p)) → new ≡ named ++ spaced (windows_as p.kind p)
    → new ≡ old ++ (verb_word p.kind ++ spaced (names_as p.kind p) ++ spaced (windows_as p.kind p))
windowed p old named new e ew = appended_after old named new (verb_word p.kind ++ spaced (names_as p.kind p)) (spaced (windows_as p.kind p)) e ew

pub returns-in_err-append_conds : goal.returns-in_err-append_conds
returns-in_err-append_conds c =
    let p = c.args.plan.now in
    let old = c.args.out.now.items in
    stopped_at-conds p c.from_residual-in_err-append_conds.result c.opening_word.result.now old c.append_windows.new.out.items c.append_conds.new.out.items
    c.from_residual-in_err-append_conds.ensures.0 c.opening_word.ensures
    (windowed p old c.append_names.new.out.items c.append_windows.new.out.items
    (named p old c.extend_from_slice.new.self.items c.append_names.new.out.items c.verb_word.result.now c.in_ok-extend_from_slice.ensures.items c.verb_word.ensures c.in_ok-append_names.ensures) c.in_ok-append_windows.ensures)
    c.in_err-append_conds.ensures

pub returns : goal.returns
returns c =
    let p = c.args.plan.now in
    let old = c.args.out.now.items in
    all_parts p c.append_right.result c.opening_word.result.now old c.append_windows.new.out.items c.append_conds.new.out.items c.append_right.new.out.items c.opening_word.ensures
    (windowed p old c.append_names.new.out.items c.append_windows.new.out.items
    (named p old c.extend_from_slice.new.self.items c.append_names.new.out.items c.verb_word.result.now c.in_ok-extend_from_slice.ensures.items c.verb_word.ensures c.in_ok-append_names.ensures) c.in_ok-append_windows.ensures)
    c.in_ok-append_conds.ensures c.append_right.ensures
