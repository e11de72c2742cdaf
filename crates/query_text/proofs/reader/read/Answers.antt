use Rattle.std.proofs.Common.{◌∙◌, ap}
use Rattle.query_text.specs.Reading.{text_words}
use Rattle.query_text.proofs.GrammarLaws.{tree_by}
use Rattle.query_text.proofs.FaultLaws.{fault_by}
use Rattle.query_text.proofs.TextLaws.{value_by, place_by}
use Rattle.query_text.proofs.reader.read.Goals as goal

pub returns-in-Ok-clause-tree : goal.returns-in-Ok-clause-tree
returns-in-Ok-clause-tree c = tree_by (text_words c.args.text.now) c.text_words-cursor.result c.in-Ok.ast (c.text_words-cursor.ensures ∙ ap text_words c.as_slice.ensures.value) c.in-Ok.ensures

pub returns-in-Ok-clause-value : goal.returns-in-Ok-clause-value
returns-in-Ok-clause-value c = value_by (text_words c.args.text.now) c.text_words-cursor.result c.in-Ok.ast (c.text_words-cursor.ensures ∙ ap text_words c.as_slice.ensures.value) c.in-Ok.ensures

pub returns-in-Err-Syntax-clause-fault : goal.returns-in-Err-Syntax-clause-fault
returns-in-Err-Syntax-clause-fault c =
    let fault = rw c.in-Err-Syntax.field-0-is at c.in-Err-Syntax.ensures in
    fault_by (text_words c.args.text.now) c.text_words-cursor.result c.parse.new.cursor c.fault_place.result c.count-total.result c.count-left.result
    (c.text_words-cursor.ensures ∙ ap text_words c.as_slice.ensures.value) fault c.count-total.ensures c.count-left.ensures c.fault_place.ensures

pub returns-in-Err-Syntax-clause-place : goal.returns-in-Err-Syntax-clause-place
returns-in-Err-Syntax-clause-place c =
    let fault = rw c.in-Err-Syntax.field-0-is at c.in-Err-Syntax.ensures in
    place_by (text_words c.args.text.now) c.text_words-cursor.result c.parse.new.cursor c.fault_place.result c.count-total.result c.count-left.result
    (c.text_words-cursor.ensures ∙ ap text_words c.as_slice.ensures.value) fault c.count-total.ensures c.count-left.ensures c.fault_place.ensures
