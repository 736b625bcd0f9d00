use Rattle.cert_json.proofs.DigestBytes.{is_digest}
use Rattle.cert_json.proofs.DigestTexts.{read_again, text_is_utf8}
use Rattle.cert_json.proofs.digests.digests_have_texts.Goals as goal

pub returns-clause-digests : goal.returns-clause-digests
returns-clause-digests c = is_digest

pub returns-clause-read : goal.returns-clause-read
returns-clause-read c = read_again

pub returns-clause-texts : goal.returns-clause-texts
returns-clause-texts c = text_is_utf8
