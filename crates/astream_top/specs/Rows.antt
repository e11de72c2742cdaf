-- Worked inputs, evaluated on the definitions alone.
use Rattle.std.specs.Prelude.{ℕ, ◌≡◌, ◌^◌, refl, Some, None, replicate, List, [], ◌∷◌, ◌++◌, codes}
use Rattle.std.specs.Fmt.{digits}
use Rattle.as_lineform.specs.Lines.{items}
use Rattle.as_base.specs.declared.config.Config.{Config}
use Rattle.views.specs.Alike.{AreAlike}
use Rattle.session.specs.View.{view, text_of}
use Rattle.session.specs.Shut.{shut}
use Rattle.service.specs.AnswerText.{answers_text, done_text}
use Rattle.astream_top.specs.declared.command.Command.TheVariants.{Run}
use Rattle.astream_top.specs.Command.{command_of}

-- the configuration of `run` with so many streams and slots, and that of `run` alone
abbrev with : ℕ → ℕ → Config
with streams slots = record { streams = streams; slots = slots; parts = 4; lane = 1024 }

abbrev usual : Config
usual = with 4 64

-- the answers to an input, and the text of output n after its lines, and after its end
abbrev answers_for : Config → List ℕ → List ℕ
answers_for c bytes = answers_text c (items bytes)

abbrev answered : List ℕ → List ℕ
answered bytes = answers_for usual bytes

abbrev held_at : ℕ → List ℕ → List ℕ
held_at n bytes = text_of usual (items bytes) n

abbrev held_in_the_end : ℕ → List ℕ → List ℕ
held_in_the_end n bytes = text_of usual (shut usual (items bytes)) n

abbrev passed_input : List ℕ
passed_input = codes "create select from a\nrec a 5 1 10 0 0 0\nmark a 6\n"

pub passed_answers : answered passed_input ≡ codes "1 created 1 at 0\n"
unfolding digits
passed_answers = refl

pub passed_output : held_at 1 passed_input ≡ codes "5 1 10 0 0 0\n"
unfolding digits
passed_output = refl

abbrev waiting_input : List ℕ
waiting_input = codes "create select from a\nrec a 5 1 10 0 0 0\nmark a 5\n"

pub waiting_output : held_at 1 waiting_input ≡ []
unfolding digits
waiting_output = refl

pub waiting_output_in_the_end : held_in_the_end 1 waiting_input ≡ codes "5 1 10 0 0 0\n"
unfolding digits
waiting_output_in_the_end = refl

abbrev refused_input : List ℕ
refused_input = codes "create select from a\nrec a 10 1 0 0 0 0\nrec a 9 1 0 0 0 0\nmark a 4\nmark a 3\nend a\nrec a 11 1 0 0 0 0\nmark b 1\nend a\n"

pub refused_answers : answered refused_input ≡ codes "1 created 1 at 0\n3 late\n5 back\n7 ended\n9 ended\n"
unfolding digits
refused_answers = refl

pub refused_output : held_at 1 refused_input ≡ codes "10 1 0 0 0 0\n"
unfolding digits
refused_output = refl

pub empty_input : answered [] ++ done_text 0 ≡ codes "done 0\n"
unfolding digits
empty_input = refl

pub unended_line : answered (codes "mark a 5\nmark a 4") ≡ codes "2 back\n"
unfolding digits
unended_line = refl

pub long_line : answered (replicate 4097 120 ++ codes "\nmark a 1") ≡ codes "1 long\n"
unfolding digits
long_line = refl

pub longest_line : answered (replicate 4096 120 ++ codes "\nmark a 1") ≡ codes "1 form\n"
unfolding digits
longest_line = refl

abbrev three_queries : List ℕ
three_queries = codes "create select from a\nrec a 1 7 1 0 0 0\ncreate select from a\nrec a 2 7 2 0 0 0\nrec a 2 7 3 0 0 0\ncreate select from a\nrec a 3 7 4 0 0 -5\nmark a 3\n"

pub three_answers : answered three_queries ≡ codes "1 created 1 at 0\n3 created 2 at 2\n6 created 3 at 3\n"
unfolding digits
three_answers = refl

pub first_of_three : held_at 1 three_queries ≡ codes "1 7 1 0 0 0\n2 7 2 0 0 0\n2 7 3 0 0 0\n"
unfolding digits
first_of_three = refl

pub second_of_three_in_the_end : held_in_the_end 2 three_queries ≡ codes "2 7 2 0 0 0\n2 7 3 0 0 0\n3 7 4 0 0 -5\n"
unfolding digits
second_of_three_in_the_end = refl

pub third_of_three_in_the_end : held_in_the_end 3 three_queries ≡ codes "3 7 4 0 0 -5\n"
unfolding digits
third_of_three_in_the_end = refl

-- four lines that are refused: too long, in bytes that no word has, empty; and one without a line feed that is taken
pub malformed_lines : answered (replicate 5000 120 ++ 10 ∷ 195 ∷ 169 ∷ codes "\n\nmark a 1") ≡ codes "1 long\n2 form\n3 form\n"
unfolding digits
malformed_lines = refl

-- the one slot is free again from the deletion on
abbrev full_input : List ℕ
full_input = codes "create select from a\ncreate select from a\ndelete 1\ncreate select from a\n"

pub full_answers : answers_for (with 4 1) full_input ≡ codes "1 created 1 at 0\n2 full\n3 deleted 1 at 0\n4 created 2 at 0\n"
unfolding digits
full_answers = refl

-- two queries have one slot and one time of creation, and each its own rows
abbrev reused_input : List ℕ
reused_input = codes "create select from a\ndelete 1\ncreate select from a\nrec a 0 1 1 0 0 0\nmark a 1\n"

pub reused_answers : answers_for (with 4 1) reused_input ≡ codes "1 created 1 at 0\n2 deleted 1 at 0\n3 created 2 at 0\n"
unfolding digits
reused_answers = refl

pub first_of_slot : text_of (with 4 1) (shut (with 4 1) (items reused_input)) 1 ≡ []
unfolding digits
first_of_slot = refl

pub second_of_slot : text_of (with 4 1) (items reused_input) 2 ≡ codes "0 1 1 0 0 0\n"
unfolding digits
second_of_slot = refl

-- a deleted query's rows are put until its life is passed, and a query is passed by its own stream's watermark
abbrev two_streams : List ℕ
two_streams = codes "create select from b\nrec b 5 1 0 0 0 0\nmark a 9\nrec b 6 1 0 0 0 0\ndelete 1\nrec b 7 1 0 0 0 0\nmark b 6\n"

pub two_streams_answers : answered two_streams ≡ codes "1 created 1 at 0\n5 deleted 1 at 10\n"
unfolding digits
two_streams_answers = refl

pub passed_by_its_own : held_at 1 two_streams ≡ codes "5 1 0 0 0 0\n"
unfolding digits
passed_by_its_own = refl

pub after_deletion : held_in_the_end 1 two_streams ≡ codes "5 1 0 0 0 0\n6 1 0 0 0 0\n7 1 0 0 0 0\n"
unfolding digits
after_deletion = refl

-- refusals in their order, over two streams
abbrev order_input : List ℕ
order_input = codes "create select form a\ncreate join a a tumble 5\ncreate count by all from a tumble 0\ndelete 9\ncreate\ncreate select from a where v1 <\ncreate select from d\nrec d 1 1 0 0 0 0\nend a\nmark a 5\nmark b 7\nmark b 6\n"

pub order_answers : answers_for (with 2 64) order_input
    ≡ codes "1 syntax 2\n2 twin\n3 window\n4 unknown\n5 syntax 1\n6 syntax 7\n7 stranger\n8 stranger\n10 ended\n12 back\n"
unfolding digits
order_answers = refl

-- a selection with a bound
pub bounded_output : held_at 1 (codes "create select from a where v1 > 4\nrec a 1 1 5 0 0 0\nrec a 2 1 4 0 0 0\nmark a 3\n") ≡ codes "1 1 5 0 0 0\n"
unfolding digits
bounded_output = refl

-- the second query is created at 6, and the second record, which comes after it, has the time 5: it is not its own
abbrev after_input : List ℕ
after_input = codes "create select from a\nrec a 5 1 0 0 0 0\ncreate select from a\nrec a 5 2 0 0 0 0\nmark a 6\n"

pub after_answers : answered after_input ≡ codes "1 created 1 at 0\n3 created 2 at 6\n"
unfolding digits
after_answers = refl

pub first_after : held_at 1 after_input ≡ codes "5 1 0 0 0 0\n5 2 0 0 0 0\n"
unfolding digits
first_after = refl

pub second_after : held_in_the_end 2 after_input ≡ []
unfolding digits
second_after = refl

-- one slot and one window have two holders: the first is cut by its end, the second by its beginning
abbrev two_holders : List ℕ
two_holders = codes "create count by all from a tumble 100\nrec a 10 7 3 0 0 0\ndelete 1\ncreate sum v1 by all from a tumble 100\nrec a 40 7 5 0 0 0\nmark a 100\n"

pub two_holders_answers : answers_for (with 4 1) two_holders ≡ codes "1 created 1 at 0\n3 deleted 1 at 11\n4 created 2 at 11\n"
unfolding digits
two_holders_answers = refl

pub first_holder : text_of (with 4 1) (items two_holders) 1 ≡ codes "0 100 1\n"
unfolding digits
first_holder = refl

pub second_holder : text_of (with 4 1) (items two_holders) 2 ≡ codes "0 100 5\n"
unfolding digits
second_holder = refl

-- each record lies in two windows
pub sliding_sums : held_at 1 (codes "create sum v1 by key from a slide 10 5\nrec a 7 1 3 0 0 0\nrec a 12 1 4 0 0 0\nmark a 20\n")
    ≡ codes "0 10 1 3\n5 15 1 7\n10 20 1 4\n"
unfolding digits
sliding_sums = refl

-- a record that came too late is not counted
abbrev late_count : List ℕ
late_count = codes "create count by all from a tumble 100\nrec a 10 1 0 0 0 0\nrec a 9 1 0 0 0 0\nrec a 10 1 0 0 0 0\n"

pub late_count_answers : answered late_count ≡ codes "1 created 1 at 0\n3 late\n"
unfolding digits
late_count_answers = refl

pub late_count_output : held_in_the_end 1 late_count ≡ codes "0 100 2\n"
unfolding digits
late_count_output = refl

-- a deletion does not pass a window; the watermark does, where it reaches the end of the query's life
abbrev cut_input : List ℕ
cut_input = codes "create count by all from a tumble 1000\nrec a 50 1 0 0 0 0\nmark a 100\ndelete 1\nmark a 100\n"

pub cut_early : held_at 1 cut_input ≡ []
unfolding digits
cut_early = refl

pub cut_answers : answered cut_input ≡ codes "1 created 1 at 0\n4 deleted 1 at 101\n"
unfolding digits
cut_answers = refl

pub cut_window : held_at 1 (cut_input ++ codes "mark a 101\n") ≡ codes "0 1000 1\n"
unfolding digits
cut_window = refl

-- a window is passed where the watermark reaches its end, and no tick before
abbrev edge_input : List ℕ
edge_input = codes "create count by all from a tumble 10\nrec a 3 1 0 0 0 0\nmark a 9\n"

pub before_the_edge : held_at 1 edge_input ≡ []
unfolding digits
before_the_edge = refl

pub at_the_edge : held_at 1 (edge_input ++ codes "rec a 10 1 0 0 0 0\nmark a 10\n") ≡ codes "0 10 1\n"
unfolding digits
at_the_edge = refl

pub after_the_edge : held_in_the_end 1 (edge_input ++ codes "rec a 10 1 0 0 0 0\nmark a 10\n") ≡ codes "0 10 1\n10 20 1\n"
unfolding digits
after_the_edge = refl

-- a watermark may pass all windows at once, and the last window of all ends after all times
pub all_at_once : held_at 1 (codes "create count by all from a tumble 1\nrec a 0 1 0 0 0 0\nmark a 4611686018427387903\n") ≡ codes "0 1 1\n"
unfolding digits
all_at_once = refl

abbrev last_input : List ℕ
last_input = codes "create count by all from a tumble 10\nrec a 4611686018427387903 1 0 0 0 0\ndelete 1\n"

pub last_answers : answered last_input ≡ codes "1 created 1 at 0\n3 deleted 1 at 4611686018427387904\n"
unfolding digits
last_answers = refl

pub last_window : held_in_the_end 1 last_input ≡ codes "4611686018427387900 4611686018427387910 1\n"
unfolding digits
last_window = refl

-- a sum of more than 64 bits, by a column
pub wide_sum : held_at 1 (codes "create sum v1 by v2 from a tumble 10\nrec a 1 3 9223372036854775807 5 0 0\nrec a 2 4 9223372036854775807 5 0 0\nmark a 10\n")
    ≡ codes "0 10 5 18446744073709551614\n"
unfolding digits
wide_sum = refl

-- two joins have one slot and one window, and each the pair of its own life; the lower watermark passes the window
abbrev two_joins : List ℕ
two_joins = codes "create join a b tumble 100\nrec a 10 7 0 0 0 0\ndelete 1\ncreate join a b tumble 100\nrec a 20 7 0 0 0 0\nrec b 5 7 0 0 0 0\nrec b 30 7 0 0 0 0\nmark a 100\n"

pub two_joins_answers : answers_for (with 4 1) (two_joins ++ codes "mark b 100\n") ++ done_text 9
    ≡ codes "1 created 1 at 0\n3 deleted 1 at 11\n4 created 2 at 11\ndone 9\n"
unfolding digits
two_joins_answers = refl

pub two_joins_wait : text_of (with 4 1) (items two_joins) 1 ++ text_of (with 4 1) (items two_joins) 2 ≡ []
unfolding digits
two_joins_wait = refl

pub first_join : text_of (with 4 1) (items (two_joins ++ codes "mark b 100\n")) 1 ≡ codes "0 100 7 10 0 0 0 0 5 0 0 0 0\n"
unfolding digits
first_join = refl

pub second_join : text_of (with 4 1) (items (two_joins ++ codes "mark b 100\n")) 2 ≡ codes "0 100 7 20 0 0 0 0 30 0 0 0 0\n"
unfolding digits
second_join = refl

-- equal records make as many equal rows as they make pairs
pub equal_pairs : held_in_the_end 1 (codes "create join a b tumble 10\nrec a 1 7 0 0 0 0\nrec a 1 7 0 0 0 0\nrec b 2 7 0 0 0 0\nrec b 2 7 0 0 0 0\n")
    ≡ codes "0 10 7 1 0 0 0 0 2 0 0 0 0\n0 10 7 1 0 0 0 0 2 0 0 0 0\n0 10 7 1 0 0 0 0 2 0 0 0 0\n0 10 7 1 0 0 0 0 2 0 0 0 0\n"
unfolding digits
equal_pairs = refl

-- the pairs of a window stand by the numbers of their rows, and not by their lines
pub ordered_pairs : held_in_the_end 1 (codes "create join a b tumble 10\nrec a 1 7 3 0 0 0\nrec a 1 7 3 0 0 0\nrec b 8 7 9 0 0 0\nrec b 8 7 5 0 0 0\n")
    ≡ codes "0 10 7 1 3 0 0 0 8 5 0 0 0\n0 10 7 1 3 0 0 0 8 5 0 0 0\n0 10 7 1 3 0 0 0 8 9 0 0 0\n0 10 7 1 3 0 0 0 8 9 0 0 0\n"
unfolding digits
ordered_pairs = refl

-- the one query of a run with 64 slots is like the second holder of the one slot above
abbrev alone_input : List ℕ
alone_input = codes "create select from a\nrec a 0 1 1 0 0 0\nmark a 1\n"

pub like_the_second : AreAlike (view usual (items alone_input)) 1 (view (with 4 1) (items reused_input)) 2
unfolding digits
like_the_second = refl

-- an hour of clicks on stream a and of purchases on b: the key is the user; a click has the page and the seconds that it
-- was looked at, a purchase its price and the thing that was bought
abbrev clicks : List ℕ
clicks =
    codes "create count by all from a tumble 600000\ncreate count by v1 from a tumble 1800000\ncreate sum v1 by key from b tumble 1800000\ncreate select from b where v1 >= 5000\ncreate join a b tumble 600000 left v1 = 3\ncreate sum v1 by all from b slide 1200000 600000\n"
    ++ codes "rec a 60000 101 3 20 0 0\nrec a 120000 102 1 15 0 0\nrec b 180000 101 2500 7 0 0\nmark a 600000\nmark b 600000\nrec a 700000 102 3 9 0 0\n"
    ++ codes "rec b 900000 102 7000 8 0 0\ndelete 1\ncreate count by key from a tumble 900000\ncreate select from a where key = 101\nrec a 1000000 101 2 30 0 0\nmark a 1200000\n"
    ++ codes "mark b 1200000\ndelete 4\ncreate select from b where v1 < 5000\ndelete 5\ncreate join a b tumble 1200000\ncreate sum v1 by v2 from b tumble 3600000\n"
    ++ codes "create count by all from b tumble 600000\nrec a 1300000 101 3 12 0 0\nrec b 1500000 101 4000 7 0 0\nrec b 1800000 102 6000 8 0 0\nrec a 1900000 102 3 5 0 0\nmark a 3600000\n"
    ++ codes "mark b 3600000\n"

pub clicks_answers : answered clicks ++ done_text 31
    ≡ codes "1 created 1 at 0\n2 created 2 at 0\n3 created 3 at 0\n4 created 4 at 0\n5 created 5 at 0\n6 created 6 at 0\n14 deleted 1 at 900001\n15 created 7 at 900001\n"
    ++ codes "16 created 8 at 900001\n20 deleted 4 at 1200001\n21 created 9 at 1200001\n22 deleted 5 at 1200001\n23 created 10 at 1200001\n24 created 11 at 1200001\n25 created 12 at 1200001\ndone 31\n"
unfolding digits
clicks_answers = refl

pub first_of_clicks : held_at 1 clicks ≡ codes "0 600000 2\n600000 1200000 1\n"
unfolding digits
first_of_clicks = refl

pub second_of_clicks : held_at 2 clicks ≡ codes "0 1800000 1 1\n0 1800000 2 1\n0 1800000 3 3\n1800000 3600000 3 1\n"
unfolding digits
second_of_clicks = refl

pub third_of_clicks : held_at 3 clicks ≡ codes "0 1800000 101 6500\n0 1800000 102 7000\n1800000 3600000 102 6000\n"
unfolding digits
third_of_clicks = refl

pub fourth_of_clicks : held_at 4 clicks ≡ codes "900000 102 7000 8 0 0\n"
unfolding digits
fourth_of_clicks = refl

pub fifth_of_clicks : held_at 5 clicks ≡ codes "0 600000 101 60000 3 20 0 0 180000 2500 7 0 0\n600000 1200000 102 700000 3 9 0 0 900000 7000 8 0 0\n"
unfolding digits
fifth_of_clicks = refl

pub sixth_of_clicks : held_at 6 clicks ≡ codes "0 1200000 9500\n600000 1800000 11000\n1200000 2400000 10000\n1800000 3000000 6000\n"
unfolding digits
sixth_of_clicks = refl

pub seventh_of_clicks : held_at 7 clicks ≡ codes "900000 1800000 101 2\n1800000 2700000 102 1\n"
unfolding digits
seventh_of_clicks = refl

pub eighth_of_clicks : held_at 8 clicks ≡ codes "1000000 101 2 30 0 0\n1300000 101 3 12 0 0\n"
unfolding digits
eighth_of_clicks = refl

pub ninth_of_clicks : held_at 9 clicks ≡ codes "1500000 101 4000 7 0 0\n"
unfolding digits
ninth_of_clicks = refl

pub tenth_of_clicks : held_at 10 clicks ≡ codes "1200000 2400000 101 1300000 3 12 0 0 1500000 4000 7 0 0\n1200000 2400000 102 1900000 3 5 0 0 1800000 6000 8 0 0\n"
unfolding digits
tenth_of_clicks = refl

pub eleventh_of_clicks : held_at 11 clicks ≡ codes "0 3600000 7 4000\n0 3600000 8 6000\n"
unfolding digits
eleventh_of_clicks = refl

pub twelfth_of_clicks : held_at 12 clicks ≡ codes "1200000 1800000 1\n1800000 2400000 1\n"
unfolding digits
twelfth_of_clicks = refl

-- the words of `run`: two options, none, another, one that is out of its range, one given twice, one without its number, and none
pub run_words : command_of (codes "run" ∷ codes "--slots" ∷ codes "1" ∷ codes "--streams" ∷ codes "2" ∷ []) ≡ Some (Run (with 2 1) (2 ^ 40))
unfolding digits
run_words = refl

pub run_alone : command_of (codes "run" ∷ []) ≡ Some (Run usual (2 ^ 40))
unfolding digits
run_alone = refl

pub few_bytes : command_of (codes "run" ∷ codes "--max-bytes" ∷ codes "10" ∷ []) ≡ Some (Run usual 10)
unfolding digits
few_bytes = refl

pub no_slots : command_of (codes "run" ∷ codes "--slots" ∷ codes "0" ∷ []) ≡ None
unfolding digits
no_slots = refl

pub slots_twice : command_of (codes "run" ∷ codes "--slots" ∷ codes "4" ∷ codes "--slots" ∷ codes "4" ∷ []) ≡ None
unfolding digits
slots_twice = refl

pub no_number : command_of (codes "run" ∷ codes "--lane=1" ∷ []) ≡ None
unfolding digits
no_number = refl
