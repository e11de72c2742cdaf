use Rattle.std.proofs.Common.{◌≡◌, sym, ap, ◌∙◌, List, ℕ, [], ◌∷◌, ◌++◌, map, codes, decimal, append_assoc, append-nil, to_z, of_z, w64, arith}
use Rattle.std.proofs.lemmas.Int.{ints, to_z-of_z}
use Rattle.std.specs.Fmt.{signed_decimal}
use Rattle.as_base.specs.Stream.{stream_name}
use Rattle.as_base.specs.declared.item.Given.{Given}
use Rattle.as_base.specs.declared.item.Item.TheVariants.{Rec}
use Rattle.as_words.specs.Words.{spaced}
use Rattle.as_words.proofs.AppendsLaws.{AppendsPrefix-after, AppendsPrefix-stopped}
use Rattle.as_words.proofs.JoinedLaws.{spaced-append}
use Rattle.as_lineform.specs.Spelling.{item_text}
use Rattle.as_lineform.proofs.spelling.append_record.Goals as goal

abbrev start : Given → List ℕ
start g = codes "rec" ++ spaced (stream_name g.stream ∷ decimal g.time ∷ [])

abbrev key : Given → List ℕ
key g = 32 ∷ signed_decimal g.key

abbrev values : Given → List ℕ
values g = spaced (map signed_decimal g.v)

-- the line is its start, the key and the values
line : (g : Given) → item_text (Rec g) ≡ start g ++ (key g ++ values g)
line g =
    let front : List (List ℕ) = stream_name g.stream ∷ decimal g.time ∷ [] in
    let behind : List (List ℕ) = signed_decimal g.key ∷ map signed_decimal g.v in
    ap (λ xs. codes "rec" ++ xs) (spaced-append front behind) ∙ sym (append_assoc (codes "rec") (spaced front) (spaced behind))

pub returns-in_err-append_timed : goal.returns-in_err-append_timed
returns-in_err-append_timed c =
    let g = c.args.given.now in
    AppendsPrefix-stopped c.from_residual.result c.args.out.now.items _ _ [] (start g) (key g ++ values g) _
    c.from_residual.ensures.0 (sym (append-nil c.args.out.now.items)) (line g) c.in_err-append_timed.ensures

pub returns-in_err-append_spaced_signed : goal.returns-in_err-append_spaced_signed
returns-in_err-append_spaced_signed c =
    let g = c.args.given.now in
    let same : to_z w64 (of_z w64 g.key) ≡ g.key = grind (arith, ints, to_z-of_z) in
    AppendsPrefix-stopped c.from_residual-in_err-append_spaced_signed.result c.args.out.now.items _ _ (start g) (key g) (values g) _
    c.from_residual-in_err-append_spaced_signed.ensures.0 c.in_ok-append_timed.ensures (line g ∙ sym (append_assoc (start g) (key g) (values g)))
    (rw same at c.in_err-append_spaced_signed.ensures)

pub returns : goal.returns
returns c =
    let g = c.args.given.now in
    let same : to_z w64 (of_z w64 g.key) ≡ g.key = grind (arith, ints, to_z-of_z) in
    AppendsPrefix-after c.append_spaced_numbers.result c.args.out.now.items _ _ (start g ++ key g) (values g) _
    ((rw same at c.in_ok-append_spaced_signed.ensures) ∙ ap (λ xs. xs ++ key g) c.in_ok-append_timed.ensures ∙ append_assoc c.args.out.now.items (start g) (key g))
    (line g ∙ sym (append_assoc (start g) (key g) (values g))) c.append_spaced_numbers.ensures
