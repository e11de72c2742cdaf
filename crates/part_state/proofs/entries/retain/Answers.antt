use Rattle.std.proofs.Common.{◌≡◌, ◌∙◌, ap, sym, subst, rules}
use Rattle.std.proofs.lemmas.Fn.{filter_same}
use Rattle.std.specs.List.{filter}
use Rattle.views.proofs.ListLaws.{filter-map, All-filter}
use Rattle.part_state.specs.declared.entries.Entry.{Entry}
use Rattle.part_state.specs.Entries.{holder_of, holders_in, is_running, IsSafe, AreSafe}
use Rattle.part_state.proofs.entries.retain.Goals as goal

pub returns-clause-running : goal.returns-clause-running
returns-clause-running c =
    let kept : c.retain.new.self.items ≡ filter (λ (e : Entry). is_running c.args.marks.now (holder_of e)) c.args.entries.now.items
    = filter_same _ _ _ (λ x b f' k. search rules) _ _ c.retain.ensures.filtered in
    ap holders_in kept ∙ sym (filter-map (is_running c.args.marks.now) holder_of c.args.entries.now.items)

pub returns-clause-safe : goal.returns-clause-safe
returns-clause-safe c = λ safe.
    let kept : c.retain.new.self.items ≡ filter (λ (e : Entry). is_running c.args.marks.now (holder_of e)) c.args.entries.now.items
    = filter_same _ _ _ (λ x b f' k. search rules) _ _ c.retain.ensures.filtered in
    subst AreSafe (sym kept) (All-filter IsSafe (λ (e : Entry). is_running c.args.marks.now (holder_of e)) c.args.entries.now.items safe)
