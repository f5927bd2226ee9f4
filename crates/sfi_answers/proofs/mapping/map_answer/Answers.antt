use Rattle.std.proofs.Common.{ℕ, ◌∙◌, List, sym, subst}
use Rattle.std.specs.Prelude.{string_bytes}
use Rattle.sfi_build.specs.Texts.{IsBuildFault}
use Rattle.sfi_link.specs.Names.{MapEntry}
use Rattle.sfi_image.specs.Parts.{IsImage}
use Rattle.sfi_answers.specs.Building.{IsMapFrom, IsMapText, IsSourceText}
use Rattle.sfi_answers.proofs.Sources.{no_fault, no_source, not_made}
use Rattle.sfi_answers.proofs.mapping.map_answer.Goals as goal

pub returns-in_err-source : goal.returns-in_err-source
returns-in_err-source c =
    no_source c.args.places.now IsMapText (λ text. text) c.args.text.now c.in_err-source.field-0.0 c.from_residual.result c.requires c.in_err-source.ensures.stop c.from_residual.ensures.1

pub returns-in_err-names : goal.returns-in_err-names
returns-in_err-names c =
    not_made c.args.places.now IsMapText (λ text. text) c.args.text.now c.in_ok-source.source.now c.in_err-names.field-0.0 c.from_residual-in_err-names.result
    c.in_ok-source.ensures.text.0 c.in_ok-source.ensures.text.1 c.in_err-names.ensures.fault (λ x is. c.in_err-names.ensures.only_mapped is.entries is.map) c.from_residual-in_err-names.ensures.1

pub returns-in_err-bytes : goal.returns-in_err-bytes
returns-in_err-bytes c =
    not_made c.args.places.now IsMapText (λ text. text) c.args.text.now c.in_ok-source.source.now c.in_err-bytes.field-0.0 c.from_residual-in_err-bytes.result
    c.in_ok-source.ensures.text.0 c.in_ok-source.ensures.text.1 c.in_err-bytes.ensures.fault (λ x is. c.in_err-bytes.ensures.only_built is.map.bytes is.map.build) c.from_residual-in_err-bytes.ensures.1

pub returns : goal.returns
returns c =
    let places = c.args.places.now in
    let input = c.args.text.now in
    let same = c.in_ok-source.ensures.text.0 in
    let source = subst IsSourceText same c.in_ok-source.ensures.text.1 in
    let mapped = c.in_ok-names.ensures.mapped in
    let built = c.in_ok-bytes.ensures.only_built mapped.bytes mapped.build in
    let made = string_bytes c.in_ok-map_lines.field-0 in
    let found = c.in_ok-map_lines.ensures in
    let map : IsMapText places c.in_ok-source.source.now made =
    record {
      entries = c.in_ok-names.names.items;
      map = mapped;
      parts = found.0;
      image = subst (λ (b : List ℕ). IsImage b found.0) (c.deref-2.ensures.value ∙ built) found.1;
      text_is = subst (λ (es : List MapEntry). IsMapFrom 0 es found.0 made) c.deref.ensures.value found.2;
    } in
    record {
      says = record { made = made; source = source; is = subst (λ (t : List ℕ). IsMapText places t made) same map; status_is = c.lines.ensures.status; text_is = c.lines.ensures.output };
      which = tt;
      only_done = λ _. c.lines.ensures.status;
      only_refused = λ h. absurd h;
      only_fault = λ why. no_fault places input why source (λ f is. absurd (c.in_ok-names.ensures.only_fault f (subst (λ (t : List ℕ). IsBuildFault places t f) (sym same) is)));
    }
