use Rattle.command_words.proofs.SpelledLaws.{form_of_analyse, form_of_refute, form_of_settle, form_of_check, form_of_confirm}
use Rattle.command_words.proofs.SpelledLaws.{form_of_upgrade, form_of_audit, only_spelled}
use Rattle.command_words.proofs.spelled.forms_are_spelled.Goals as goal

pub returns-clause-analyse : goal.returns-clause-analyse
returns-clause-analyse c = form_of_analyse

pub returns-clause-refute : goal.returns-clause-refute
returns-clause-refute c = form_of_refute

pub returns-clause-settle : goal.returns-clause-settle
returns-clause-settle c = form_of_settle

pub returns-clause-check : goal.returns-clause-check
returns-clause-check c = form_of_check

pub returns-clause-confirm : goal.returns-clause-confirm
returns-clause-confirm c = form_of_confirm

pub returns-clause-upgrade : goal.returns-clause-upgrade
returns-clause-upgrade c = form_of_upgrade

pub returns-clause-audit : goal.returns-clause-audit
returns-clause-audit c = form_of_audit

pub returns-clause-only : goal.returns-clause-only
returns-clause-only c = only_spelled
