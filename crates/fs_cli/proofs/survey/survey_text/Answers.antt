use Rattle.fs_cli.proofs.survey.survey_text.Goals as goal

pub returns-in-Rules : goal.returns-in-Rules
returns-in-Rules c = rw c.in-Rules.is c.desk_text.ensures.told

pub returns-in-Words : goal.returns-in-Words
returns-in-Words c = rw c.in-Words.is c.desk_words.ensures.told

pub returns-in-Shadow : goal.returns-in-Shadow
returns-in-Shadow c = rw c.in-Shadow.is c.shadow_text.ensures.told
