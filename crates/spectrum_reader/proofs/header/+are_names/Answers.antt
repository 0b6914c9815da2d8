use Rattle.std.proofs.Common.{◌≡◌, ◌∙◌, map, option_map, length, is_none, sym, rules}
use Rattle.std.proofs.lemmas.List.{length-map}
use Rattle.csv.specs.Records.{fields_of}
use Rattle.spectrum_reader.proofs.Places.{at_none}
use Rattle.spectrum_reader.proofs.header.+are_names.Goals as goal

pub returns-in-None-default : goal.returns-in-None-default
returns-in-None-default t c =
    let none : length c.args.names.now ≡ 0 = rw c.in-None-default.is-0 at c.split_first.ensures.cases in
    let same : is_none (option_map (λ s. s.now) c.get-field.result) ≡ is_none c.get-field.result = search rules in
    let found = at_none (map (λ name. name.now) c.args.names.now) (fields_of c.args.row.now) c.args.place (option_map (λ s. s.now) c.get-field.result)
    (length-map c.args.names.now (λ name. name.now) ∙ none) c.get-field.ensures.value in
    let is : c.is_none.result ≡ is_none c.get-field.result = search rules in
    is ∙ sym same ∙ found
