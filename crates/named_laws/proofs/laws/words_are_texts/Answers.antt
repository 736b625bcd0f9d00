use Rattle.named_laws.proofs.EachName.{named_word_is_text}
use Rattle.named_laws.proofs.laws.words_are_texts.Goals as goal

pub returns : goal.returns
returns c = named_word_is_text
