-- What holds of the answers of jobs: the laws.
use Rattle.sfi_tool.specs.Laws.{OneFault}
use Rattle.sfi_tool.proofs.OneFault.{one_of_job}

pub one_fault : OneFault
one_fault = one_of_job
