use Rattle.std.proofs.Common.{◌≡◌, ◌&&◌, true, cond, Some, None, map, string_bytes, sym, ap, ap₂, subst, ◌∙◌}
use Rattle.std.specs.Bool.{IsTrue}
use Rattle.as_base.specs.Text.{is_text}
use Rattle.as_words.specs.Words.{joined}
use Rattle.astream_top.specs.Command.{are_text}
use Rattle.astream_top.proofs.WordLaws.{text-joined, joined-by}
use Rattle.astream_top.proofs.command.text_of_words.Goals as goal

pub from_vec-requires : goal.from_vec-requires
from_vec-requires c =
    let words = map string_bytes c.args.words.now in
    let fits : are_text words ≡ true = ap₂ (λ a b. a && b) (sym c.are_words.ensures ∙ c.if-not-are_words.false) (sym c.are_short.ensures ∙ c.if-not-are_short.false) in
    let whole : c.into_bytes.result.items ≡ joined words = ap (λ v. v.items) c.into_bytes.ensures.value ∙ c.in_ok-joined.ensures.ok ∙ joined-by string_bytes c.args.words.now in
    subst (λ bytes. IsTrue (is_text bytes)) (sym whole) (text-joined words fits)

pub returns-clause-ok : goal.returns-clause-ok
returns-clause-ok c =
    let words = map string_bytes c.args.words.now in
    let fits : are_text words ≡ true = ap₂ (λ a b. a && b) (sym c.are_words.ensures ∙ c.if-not-are_words.false) (sym c.are_short.ensures ∙ c.if-not-are_short.false) in
    let whole : c.into_bytes.result.items ≡ joined words = ap (λ v. v.items) c.into_bytes.ensures.value ∙ c.in_ok-joined.ensures.ok ∙ joined-by string_bytes c.args.words.now in
    ap Some (c.from_vec.ensures ∙ whole) ∙ sym (ap (λ b. cond b (Some (joined words)) None) fits)
