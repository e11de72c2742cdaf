-- Texts that were worked out by hand.
use Rattle.std.proofs.Common.{◌≡◌, pos, negsuc, [], ◌∷◌, codes, refl, Ok, Err}
use Rattle.std.specs.Fmt.{digits}
use Rattle.as_base.specs.declared.stream.StreamId.TheVariants.{A, B}
use Rattle.as_base.specs.declared.query.Col.TheVariants.{V1}
use Rattle.as_base.specs.declared.query.Group.{Group}
use Rattle.query_text.specs.declared.ast.Op.TheVariants.{Lt, Ge}
use Rattle.query_text.specs.declared.tree.Measure.{Measure}
use Rattle.query_text.specs.declared.tree.Window.{Window}
use Rattle.query_text.specs.declared.tree.Stem.{Stem}
use Rattle.query_text.specs.declared.tree.Head.{Head}
use Rattle.as_words.specs.Parts.{parts_of}
use Rattle.query_text.specs.Spelling.{WrittenQuery, query_words}
use Rattle.query_text.specs.Places.{read_from}
use Rattle.query_text.specs.Places.Place.{AtVerb}

a_sum : WrittenQuery
a_sum = record {
  head = Head.Windowed (Stem.Grouped (Measure.Sum V1) Group.Key A) (Window.Slide 20 10);
  left = record { field = 2; op = Lt; value = negsuc 4 } ∷ record { field = 0; op = Ge; value = pos 0 } ∷ [];
  right = [];
}

a_join : WrittenQuery
a_join = record {
  head = Head.Windowed (Stem.Joined A B) (Window.Tumble 7);
  left = [];
  right = record { field = 4; op = Ge; value = pos 12 } ∷ [];
}

spelled_sum : query_words a_sum ≡ parts_of 32 (codes "sum v1 by key from a slide 20 10 where v2 < -5 and key >= 0")
unfolding digits a_sum
spelled_sum = refl

read_sum : read_from AtVerb (parts_of 32 (codes "sum v1 by key from a slide 20 10 where v2 < -5 and key >= 0")) ≡ Ok a_sum
unfolding digits a_sum
read_sum = refl

spelled_join : query_words a_join ≡ parts_of 32 (codes "join a b tumble 7 right v4 >= 12")
unfolding digits a_join
spelled_join = refl

read_join : read_from AtVerb (parts_of 32 (codes "join a b tumble 7 right v4 >= 12")) ≡ Ok a_join
unfolding digits a_join
read_join = refl

read_left_after_right : read_from AtVerb (parts_of 32 (codes "join a b tumble 7 right v4 >= 12 left v1 = 1")) ≡ Err (codes "left" ∷ codes "v1" ∷ codes "=" ∷ codes "1" ∷ [])
unfolding digits
read_left_after_right = refl

read_front : read_from AtVerb (codes "select" ∷ codes "from" ∷ []) ≡ Err []
read_front = refl

read_where_twice : read_from AtVerb (parts_of 32 (codes "select from b where v1 = 1 where")) ≡ Err (codes "where" ∷ [])
unfolding digits
read_where_twice = refl
