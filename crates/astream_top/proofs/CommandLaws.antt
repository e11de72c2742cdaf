-- What the words of `run` ask for is in range.
use Rattle.std.proofs.Common.{◌≡◌, ◌≤◌, ◌<◌, ◌^◌, ℕ, Bool, true, false, cond, Option, Some, None, IfSome, List, [], ◌∷◌, option_map, refl, subst, codes, bytes_eq, arith}
use Rattle.std.proofs.lemmas.Bool.{and_from, le-leb}
use Rattle.as_base.specs.declared.config.Config.{Config}
use Rattle.as_base.specs.Config.{fits}
use Rattle.options.specs.Options.{are_pairs, number, span_of, IsWithin, config_of}
use Rattle.options.specs.declared.option.NumberOption.TheVariants.{Streams, Slots, MaxBytes, Number, Lines}
use Rattle.options.proofs.NumberLaws.{number_within}
use Rattle.astream_top.specs.declared.command.Command.{Command}
use Rattle.astream_top.specs.declared.command.Command.TheVariants.{Run, Soak, Generate, Explain}
use Rattle.astream_top.specs.Command.{run_options, run_of, run_with, soak_options, soak_of, soak_with, generate_options, generate_of, generate_with, text_of_words, command_of}

-- the configuration of a run is in its ranges, and its limit is at most 2^40; so are those of the others, and their lines
-- are at most 10,000,000
abbrev HoldsOf : Option Command → Type 0
HoldsOf (Some (Run c limit)) = (fits c ≡ true) × (limit ≤ 2 ^ 40)
HoldsOf (Some (Soak c number lines)) = (fits c ≡ true) × (lines ≤ 10000000)
HoldsOf (Some (Generate number lines streams)) = (lines ≤ 10000000) × ((2 ≤ streams) × (streams ≤ 4))
HoldsOf (Some (Explain text)) = Unit {0}
HoldsOf None = Unit {0}

numbers-fit : (streams slots : ℕ) → IsWithin (span_of Streams) streams → IsWithin (span_of Slots) slots
    → fits (record { streams = streams; slots = slots; parts = 4; lane = 1024 }) ≡ true
numbers-fit streams slots s t =
    and_from _ _
    (and_from _ _
    (and_from _ _ (and_from _ _ (le-leb 2 streams s.0) (le-leb streams 4 s.1)) (and_from _ _ (le-leb 1 slots t.0) (le-leb slots 512 t.1)))
    refl)
    refl

run_of-sound : (streams slots limit : Option ℕ) → IfSome streams (IsWithin (span_of Streams)) → IfSome slots (IsWithin (span_of Slots)) → IfSome limit (IsWithin (span_of MaxBytes))
    → HoldsOf (run_of (config_of streams slots) limit)
run_of-sound (Some streams) (Some slots) (Some limit) s t u = (numbers-fit streams slots s t, u.1)
run_of-sound (Some streams) (Some slots) None s t u = tt
run_of-sound (Some streams) None limit s t u = tt
run_of-sound None slots limit s t u = tt

run_with-sound : (words : List (List ℕ)) → HoldsOf (run_with words)
run_with-sound words = go (are_pairs run_options words)
  where
    go : (b : Bool) → HoldsOf (cond b (run_of (config_of (number Streams words) (number Slots words)) (number MaxBytes words)) None)
    go true = run_of-sound _ _ _ (number_within Streams words) (number_within Slots words) (number_within MaxBytes words)
    go false = tt

soak_of-sound : (streams slots seed lines : Option ℕ) → IfSome streams (IsWithin (span_of Streams)) → IfSome slots (IsWithin (span_of Slots)) → IfSome lines (IsWithin (span_of Lines))
    → HoldsOf (soak_of (config_of streams slots) seed lines)
soak_of-sound (Some streams) (Some slots) (Some seed) (Some lines) s t u = (numbers-fit streams slots s t, u.1)
soak_of-sound (Some streams) (Some slots) (Some seed) None s t u = tt
soak_of-sound (Some streams) (Some slots) None lines s t u = tt
soak_of-sound (Some streams) None seed lines s t u = tt
soak_of-sound None slots seed lines s t u = tt

soak_with-sound : (words : List (List ℕ)) → HoldsOf (soak_with words)
soak_with-sound words = go (are_pairs soak_options words)
  where
    go : (b : Bool) → HoldsOf (cond b (soak_of (config_of (number Streams words) (number Slots words)) (number Number words) (number Lines words)) None)
    go true = soak_of-sound _ _ (number Number words) _ (number_within Streams words) (number_within Slots words) (number_within Lines words)
    go false = tt

generate_of-sound : (seed lines streams : Option ℕ) → IfSome lines (IsWithin (span_of Lines)) → IfSome streams (IsWithin (span_of Streams)) → HoldsOf (generate_of seed lines streams)
generate_of-sound (Some seed) (Some lines) (Some streams) s t = (s.1, t)
generate_of-sound (Some seed) (Some lines) None s t = tt
generate_of-sound (Some seed) None streams s t = tt
generate_of-sound None lines streams s t = tt

generate_with-sound : (words : List (List ℕ)) → HoldsOf (generate_with words)
generate_with-sound words = go (are_pairs generate_options words)
  where
    go : (b : Bool) → HoldsOf (cond b (generate_of (number Number words) (number Lines words) (number Streams words)) None)
    go true = generate_of-sound (number Number words) _ _ (number_within Lines words) (number_within Streams words)
    go false = tt

explain-sound : (text : Option (List ℕ)) → HoldsOf (option_map Explain text)
explain-sound None = tt
explain-sound (Some text) = tt

command_of-sound : (words : List (List ℕ)) → HoldsOf (command_of words)
command_of-sound [] = tt
command_of-sound (word ∷ words) = go (bytes_eq word (codes "run")) (bytes_eq word (codes "soak")) (bytes_eq word (codes "generate")) (bytes_eq word (codes "explain"))
  where
    go : (a b c d : Bool) → HoldsOf (cond a (run_with words) (cond b (soak_with words) (cond c (generate_with words) (cond d (option_map Explain (text_of_words words)) None))))
    go true b c d = run_with-sound words
    go false true c d = soak_with-sound words
    go false false true d = generate_with-sound words
    go false false false true = explain-sound (text_of_words words)
    go false false false false = tt

pub run_fits : (words : List (List ℕ)) (c : Config) (limit : ℕ) → command_of words ≡ Some (Run c limit) → fits c ≡ true
run_fits words c limit is = (subst HoldsOf is (command_of-sound words)).0

pub run_small : (words : List (List ℕ)) (c : Config) (limit : ℕ) → command_of words ≡ Some (Run c limit) → limit < 2 ^ 61
run_small words c limit is = let most = (subst HoldsOf is (command_of-sound words)).1 in omega (arith, most)

pub soak_fits : (words : List (List ℕ)) (c : Config) (seed lines : ℕ) → command_of words ≡ Some (Soak c seed lines) → (fits c ≡ true) × (lines ≤ 10000000)
soak_fits words c seed lines is = subst HoldsOf is (command_of-sound words)

pub generate_fits : (words : List (List ℕ)) (seed lines streams : ℕ) → command_of words ≡ Some (Generate seed lines streams) → (lines ≤ 10000000) × ((2 ≤ streams) × (streams ≤ 4))
generate_fits words seed lines streams is = subst HoldsOf is (command_of-sound words)
