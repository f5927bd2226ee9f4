use Rattle.std.proofs.Common.{inl, inr, refl, subst, sym}
use Rattle.sfi_image.proofs.Facts.{never_both}
use Rattle.sfi_image.specs.Faults.{IfLayout, IsFault}
use Rattle.sfi_image.specs.declared.fault.ImageFault.{ImageFault}
use Rattle.sfi_report.specs.Listing.{IsListing}
use Rattle.sfi_answers.proofs.Images.{no_layout}
use Rattle.sfi_answers.proofs.listing.listing_answer.Goals as goal

pub returns-in_ok-listing_text-in-Ok : goal.returns-in_ok-listing_text-in-Ok
returns-in_ok-listing_text-in-Ok c = record {
  says = record { parts = c.in-Ok.image; image = c.in-Ok.ensures.image; status_is = c.lines.ensures.status; text_is = subst (IsListing c.in-Ok.image) (sym c.lines.ensures.output) c.in_ok-listing_text-in-Ok.ensures.text };
  which = tt;
  only_done = λ _. c.lines.ensures.status;
  only_refused = λ h. absurd h;
  only_fault = λ fault. no_layout c.args.bytes.now fault (λ k is. elim (c.in-Ok.ensures.only_fault k is) [ inl e ↦ cc | inr e ↦ cc ]);
}

pub returns-in-Err-Layout : goal.returns-in-Err-Layout
returns-in-Err-Layout c =
    let is = subst (λ (e : ImageFault). IfLayout e (IsFault c.args.bytes.now)) c.in-Err-Layout.field-0-is c.in-Err-Layout.ensures.fault in
    record {
      says = tt;
      which = subst (IsFault c.args.bytes.now) (sym c.in-Err-Layout.fault-is) is;
      only_done = λ h. never_both c.args.bytes.now h.0 _ h.1 is;
      only_refused = λ h. absurd h;
      only_fault = λ _ _. refl;
    }
