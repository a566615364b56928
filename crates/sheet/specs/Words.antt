-- What the forms and the words of the code say. Assumes nothing.
use Rattle.std.specs.Prelude.{ℕ, Bool, cond}
use Rattle.format.specs.Sheets as sheets
use Rattle.format.specs.Sheets.{number_form, truth_form, character_form, text_form, inline_form, pointer_form, array_form, far_array_form, slice_form, number_word, text_word, count_word}
use Rattle.sheet.specs.declared.word.Form.{Form}
use Rattle.sheet.specs.declared.word.Form.TheVariants.{Number1, Number2, Number4, Number8, Truth, Character, Text, InlineText, Pointer, Array, FarArray, Slice}
use Rattle.sheet.specs.declared.word.Word.{Word}
use Rattle.sheet.specs.declared.word.Word.TheVariants.{Number, Text as TextWord, Count}
use Rattle.sheet.specs.declared.word.Read.{Read}

abbrev pub bit : Bool → ℕ
bit b = cond b 1 0

abbrev pub form_of : Form → sheets.Form
form_of Number1 = number_form 1
form_of Number2 = number_form 2
form_of Number4 = number_form 4
form_of Number8 = number_form 8
form_of Truth = truth_form
form_of Character = character_form
form_of Text = text_form
form_of InlineText = inline_form
form_of Pointer = pointer_form
form_of (Array n) = array_form n
form_of (FarArray n) = far_array_form n
form_of Slice = slice_form

abbrev pub word_of : Word → sheets.Word
word_of (Number p n) = number_word p n
word_of (TextWord p bs) = text_word p bs.now
word_of (Count p n) = count_word p n

abbrev pub read_of : Read → sheets.Read
read_of r = record { word = word_of r.word; end = r.end }
