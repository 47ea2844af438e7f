use Rattle.fs_cli.proofs.{Words.{answered}, Checking.{capture_opens, capture_possible, config_possible, dump_possible, rules_possible, tape_possible}}
use Rattle.fs_cli.proofs.file_check.say_of_file.Goals as goal

pub returns-in-Config-clause-possible : goal.returns-in-Config-clause-possible
returns-in-Config-clause-possible g c =
    rw c.in-Config.is (config_possible c.say_of_config.result c.say_of_config.ensures.possible c.say_of_config.ensures.accepted)

pub returns-in-Config-clause-said : goal.returns-in-Config-clause-said
returns-in-Config-clause-said g c = rw c.in-Config.is c.say_of_config.ensures.said

pub returns-in-Config-clause-opens : goal.returns-in-Config-clause-opens
returns-in-Config-clause-opens g c = rw c.in-Config.is c.say_of_config.ensures.opens

pub returns-in-Rules-clause-possible : goal.returns-in-Rules-clause-possible
returns-in-Rules-clause-possible g c = rw c.in-Rules.is (rules_possible c.say_of_rules.result c.say_of_rules.ensures.possible c.say_of_rules.ensures.accepted)

pub returns-in-Rules-clause-said : goal.returns-in-Rules-clause-said
returns-in-Rules-clause-said g c = rw c.in-Rules.is c.say_of_rules.ensures.said

pub returns-in-Rules-clause-opens : goal.returns-in-Rules-clause-opens
returns-in-Rules-clause-opens g c = rw c.in-Rules.is c.say_of_rules.ensures.opens

pub returns-in-Tape-clause-possible : goal.returns-in-Tape-clause-possible
returns-in-Tape-clause-possible g c = rw c.in-Tape.is (tape_possible c.say_of_tape.result c.say_of_tape.ensures.possible c.say_of_tape.ensures.accepted)

pub returns-in-Tape-clause-said : goal.returns-in-Tape-clause-said
returns-in-Tape-clause-said g c = rw c.in-Tape.is c.say_of_tape.ensures.said

pub returns-in-Tape-clause-opens : goal.returns-in-Tape-clause-opens
returns-in-Tape-clause-opens g c = rw c.in-Tape.is c.say_of_tape.ensures.opens

pub returns-in-Capture-clause-possible : goal.returns-in-Capture-clause-possible
returns-in-Capture-clause-possible g c =
    rw c.in-Capture.is (capture_possible c.survey_capture.result c.survey_capture.ensures.possible c.survey_capture.ensures.accepted)

pub returns-in-Capture-clause-said : goal.returns-in-Capture-clause-said
returns-in-Capture-clause-said g c = rw c.in-Capture.is c.survey_capture.ensures.said

pub returns-in-Capture-clause-opens : goal.returns-in-Capture-clause-opens
returns-in-Capture-clause-opens g c = rw c.in-Capture.is (capture_opens _ _ _ (answered c.survey_capture.result) c.survey_capture.ensures.opens)

pub returns-in-Dump-clause-possible : goal.returns-in-Dump-clause-possible
returns-in-Dump-clause-possible g c =
    rw c.in-Dump.is (dump_possible c.survey_dump.result c.survey_dump.ensures.possible c.survey_dump.ensures.accepted)

pub returns-in-Dump-clause-said : goal.returns-in-Dump-clause-said
returns-in-Dump-clause-said g c = rw c.in-Dump.is c.survey_dump.ensures.said

pub returns-in-Dump-clause-opens : goal.returns-in-Dump-clause-opens
returns-in-Dump-clause-opens g c = rw c.in-Dump.is c.survey_dump.ensures.opens
