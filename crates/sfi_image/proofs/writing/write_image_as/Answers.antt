use Rattle.sfi_image.proofs.Prelude.{arith, length-map, view, views}
use Rattle.sfi_image.proofs.Formats.{views_of}
use Rattle.sfi_image.proofs.OneRefusal.{only_image, only_fault, fault_as_read}
use Rattle.sfi_image.proofs.writing.write_image_as.Goals as goal

pub returns-clause-only_image : goal.returns-clause-only_image
returns-clause-only_image c = only_image (views c.args.format c.args.parts.now) _ _ c.image_of.ensures

pub returns-clause-only_fault : goal.returns-clause-only_fault
returns-clause-only_fault c = only_fault (views c.args.format c.args.parts.now) _ (λ bytes image. image.layout) _ c.image_of.ensures

pub returns-clause-as_read : goal.returns-clause-as_read
returns-clause-as_read c = λ most words. let same = length-map c.args.parts.now (view c.args.format) in fault_as_read (views c.args.format c.args.parts.now) _ _ c.image_of.ensures (omega arith) (views_of c.args.format c.args.parts.now) words
