use Rattle.sfi_tool.proofs.tool.run_tool.Goals as goal

-- where the words ask for a job, nothing is owed to those that ask for none
pub returns-in-Ok-clause-unread : goal.returns-in-Ok-clause-unread
returns-in-Ok-clause-unread g c none = absurd (none c.in-Ok.job c.in-Ok.ensures.job)
