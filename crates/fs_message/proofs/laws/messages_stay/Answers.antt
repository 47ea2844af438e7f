use Rattle.fs_message.proofs.StreamLaws.{message_shrinks, message_stable, fault_stays}
use Rattle.fs_message.proofs.laws.messages_stay.Goals as goal

pub returns : goal.returns
returns c = record { shrinks = message_shrinks; stable = message_stable; fault = fault_stays }
