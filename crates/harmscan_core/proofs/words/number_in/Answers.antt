use Rattle.std.proofs.Common.{◌≡◌, ◌∙◌, sym, ap, true, false}
use Rattle.harmscan_core.specs.Words.{is_number_word}
use Rattle.harmscan_core.proofs.NumberWords.{number_parsed, no_number}
use Rattle.harmscan_core.proofs.words.number_in.Goals as goal

pub returns-then-is_number_word : goal.returns-then-is_number_word
returns-then-is_number_word c =
    let is : is_number_word c.args.word.now ≡ true = ap is_number_word (sym c.as_bytes.ensures.value) ∙ sym c.is_number_word.ensures ∙ c.if-is_number_word.true in
    c.ok.ensures.value ∙ number_parsed c.args.word.now c.parse.result is c.parse.ensures.value.0

pub returns-else-is_number_word : goal.returns-else-is_number_word
returns-else-is_number_word c =
    let is : is_number_word c.args.word.now ≡ false = ap is_number_word (sym c.as_bytes.ensures.value) ∙ sym c.is_number_word.ensures ∙ c.if-is_number_word.false in
    no_number c.args.word.now is
