use Rattle.yp_touch.specs.RecordLaws.{datastores_sendable, record_sendable}
use Rattle.yp_touch.proofs.laws.the_record_can_be_sent.Goals as goal

pub returns-clause-datastores : goal.returns-clause-datastores
returns-clause-datastores c = datastores_sendable

pub returns-clause-selections : goal.returns-clause-selections
returns-clause-selections c = record_sendable
