-- What holds of every report, listing and state: the laws.
use Rattle.sfi_report.specs.Laws.{OneReport, OneListing, OneState}
use Rattle.sfi_report.proofs.Texts as text

pub one_report : OneReport
one_report = text.one_report

pub one_listing : OneListing
one_listing = text.one_listing

pub one_state : OneState
one_state = text.one_state
