use Rattle.std.proofs.Common.{rules, ◌≡◌, ◌<◌, length, arith}
use Rattle.std.specs.Prelude.{string_bytes}
use Rattle.std.proofs.lemmas.List.{length-map}
use Rattle.command_words.specs.Words.{words_seen}
use Rattle.command_words.proofs.WordLaws.{fewer_words, more_words}
use Rattle.command_words.proofs.words.command_of.Goals as goal

pub returns-in_default-clause-form : goal.returns-in_default-clause-form
returns-in_default-clause-form c =
    let same : length (words_seen c.args.words.now) ≡ length c.args.words.now = length-map c.args.words.now string_bytes in
    elim c.in_default.branch [
      | goal.in_default-via-then-words-lt3 w ↦
          let few : length c.args.words.now < 3 = search rules in
          fewer_words (words_seen c.args.words.now) (omega (arith, same, few))
      | goal.in_default-via-else-words-lt3+else-words-lt4+else-words-lt5+else-words-lt6+else-words-lt7 w ↦
          let many : 6 < length c.args.words.now = search rules in
          more_words (words_seen c.args.words.now) (omega (arith, same, many))
    ]
