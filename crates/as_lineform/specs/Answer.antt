-- The texts of answers.
use Rattle.std.specs.Prelude.{ℕ, List, ◌++◌, codes, decimal}
use Rattle.as_base.specs.declared.answer.Word.{Word}
use Rattle.as_base.specs.declared.answer.Word.TheVariants.{Created, Deleted, Long, Form, Stranger, Ended, Late, Back, Syntax, Twin, Window, Full, Unknown}
use Rattle.as_base.specs.declared.answer.Answer.{Answer}

-- the text of an answer's word
abbrev pub word_text : Word → List ℕ
word_text (Created n at) = codes "created " ++ decimal n ++ codes " at " ++ decimal at
word_text (Deleted n at) = codes "deleted " ++ decimal n ++ codes " at " ++ decimal at
word_text Long = codes "long"
word_text Form = codes "form"
word_text Stranger = codes "stranger"
word_text Ended = codes "ended"
word_text Late = codes "late"
word_text Back = codes "back"
word_text (Syntax k) = codes "syntax " ++ decimal k
word_text Twin = codes "twin"
word_text Window = codes "window"
word_text Full = codes "full"
word_text Unknown = codes "unknown"

-- the text of an answer: its line's number, its word, a line feed
abbrev pub answer_text : Answer → List ℕ
answer_text a = decimal a.line ++ codes " " ++ word_text a.word ++ codes "\n"
