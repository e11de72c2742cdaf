use Rattle.std.proofs.Common.{subst, IfSome, ◌≡◌, ◌-◌, None, ◌∷◌, map, length, take, drop, rules, string_bytes, sym, ap, ◌∙◌}
use Rattle.std.specs.Str.{bytes_eq}
use Rattle.options.specs.Options.{span_of, values_of, IsWithin}
use Rattle.options.proofs.PairLaws.{values_few, values_taken}
use Rattle.options.proofs.NumberLaws.{number_after, number_ends, number_refused, number_taken, number_within}
use Rattle.options.proofs.number.Goals as goal

pub returns-in_err-within-clause-value : goal.returns-in_err-within-clause-value
returns-in_err-within-clause-value c =
    let o = c.span_of-span.result in
    let option = c.name_of-wanted.result.now in
    let named = ap (λ w. bytes_eq (string_bytes w) option) (sym c.name-item.is) ∙ ap (λ b. bytes_eq b option) (sym c.as_bytes.ensures.value) ∙ sym c.eq.ensures ∙ c.if-eq.true in
    let value = ap string_bytes (sym c.value-item.is) ∙ sym c.as_bytes-then-eq.ensures.value in
    let after = values_of option (map string_bytes (take (length c.loop-rest.rest.now - 2) (drop 2 c.loop-rest.rest.now))) in
    let bad = sym c.within.ensures ∙ c.in_err-within.was in
    c.from_residual.ensures
    ∙ sym (number_refused o c.loop-rest.found c.as_bytes-then-eq.result.now after bad)
    ∙ sym (ap (number_after o c.loop-rest.found) (values_taken option c.loop-rest.rest.now c.name-item.result c.value-item.result c.in-len2-up.len_at_least named ∙ ap (λ v. v ∷ after) value))
    ∙ sym c.loop-rest.invariant

pub loop-rest-preserved-in_ok-within : goal.loop-rest-preserved-in_ok-within
loop-rest-preserved-in_ok-within c =
    let o = c.span_of-span.result in
    let option = c.name_of-wanted.result.now in
    let named = ap (λ w. bytes_eq (string_bytes w) option) (sym c.name-item.is) ∙ ap (λ b. bytes_eq b option) (sym c.as_bytes.ensures.value) ∙ sym c.eq.ensures ∙ c.if-eq.true in
    let value = ap string_bytes (sym c.value-item.is) ∙ sym c.as_bytes-then-eq.ensures.value in
    let after = values_of option (map string_bytes (take (length c.loop-rest.rest.now - 2) (drop 2 c.loop-rest.rest.now))) in
    let is = sym c.within.ensures ∙ c.in_ok-within.was in
    let none : c.loop-rest.found ≡ None = search rules in
    c.loop-rest.invariant
    ∙ ap (number_after o c.loop-rest.found) (values_taken option c.loop-rest.rest.now c.name-item.result c.value-item.result c.in-len2-up.len_at_least named ∙ ap (λ v. v ∷ after) value)
    ∙ ap (λ found. number_after o found (c.as_bytes-then-eq.result.now ∷ after)) none
    ∙ number_taken o c.in_ok-within.field-0 c.as_bytes-then-eq.result.now after is

pub returns-clause-value : goal.returns-clause-value
returns-clause-value c =
    let o = c.span_of-span.result in
    let option = c.name_of-wanted.result.now in
    c.or.ensures
    ∙ sym (number_ends o c.loop-rest.found)
    ∙ sym (ap (number_after o c.loop-rest.found) (values_few option c.loop-rest.rest.now c.in_default.len_below))
    ∙ sym c.loop-rest.invariant

pub returns-clause-span : goal.returns-clause-span
returns-clause-span c = subst (λ n. IfSome n (IsWithin (span_of c.args.option))) (sym (returns-clause-value c)) (number_within c.args.option (map string_bytes c.args.words.now))
