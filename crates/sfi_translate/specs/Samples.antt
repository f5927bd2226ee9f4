-- A line of each form, and its text.
use Rattle.std.specs.Prelude.{◌≡◌, List, ℕ, ◌++◌, codes, pos, negsuc}
use Rattle.rv_word.specs.declared.instr.Instr.TheVariants.{Op, OpImm, Load, Store, Branch, Jal, Jalr, Lui, Auipc, Fence, Ecall, Ebreak}
use Rattle.rv_word.specs.declared.instr.RegOp.TheVariants.{And}
use Rattle.rv_word.specs.declared.instr.ImmOp.TheVariants.{Addi}
use Rattle.rv_word.specs.declared.instr.LoadKind.TheVariants.{Lbu}
use Rattle.rv_word.specs.declared.instr.StoreWidth.TheVariants.{Sw}
use Rattle.rv_word.specs.declared.instr.Cond.TheVariants.{Bne}
use Rattle.sfi_report.specs.Listing.{line_end}
use Rattle.sfi_translate.specs.Lines.{Line, Function, End, Entry, Head, Does}
use Rattle.sfi_translate.specs.Translation.{spell}

-- that is the text of the line, up to its end
abbrev pub Reads : Line → List ℕ → Type 0
Reads line text = spell line ≡ text ++ line_end

-- each form has the name, and its fields the order, that the headers read
pub record FormsAreSpelled : Type 0 where
  pub function : Reads (Function 1 0x01004000) (codes "FUNCTION(1,01004000)")
  pub end : Reads (End 0x01004000) (codes "END(01004000)")
  pub entry : Reads (Entry 0x01000010) (codes "ENTRY(01000010)")
  pub head : Reads (Head 0x01000080) (codes "HEAD(01000080)")
  pub op : Reads (Does 0x01000040 4 (Op And 31 10 27)) (codes "OP(01000040,4,and,31,10,27)")
  pub opi : Reads (Does 0x01000024 2 (OpImm Addi 10 11 (negsuc 1))) (codes "OPI(01000024,2,addi,10,11,-2)")
  pub load : Reads (Does 0x01000048 4 (Load Lbu 10 31 (pos 1))) (codes "LOAD(01000048,4,lbu,10,31,1)")
  pub store : Reads (Does 0x01000048 4 (Store Sw 31 10 (pos 4))) (codes "STORE(01000048,4,sw,31,10,4)")
  pub branch : Reads (Does 0x01000020 4 (Branch Bne 8 9 (pos 16)))
      (codes "BRANCH(01000020,4,bne,8,9,01000030)")
  pub branch_far : Reads (Does 0x01003ff0 4 (Branch Bne 8 9 (pos 16)))
      (codes "BRANCH_FAR(01003ff0,4,bne,8,9,01004000)")
  pub jal : Reads (Does 0x0100002c 4 (Jal 1 (negsuc 43))) (codes "JAL(0100002c,4,1,01000000)")
  pub jal_far : Reads (Does 0x01004000 4 (Jal 0 (negsuc 15))) (codes "JAL_FAR(01004000,4,0,01003ff0)")
  pub jalr : Reads (Does 0x0100000c 4 (Jalr 1 31 (pos 0))) (codes "JALR(0100000c,4,1,31,0)")
  pub lui : Reads (Does 0x01000020 4 (Lui 10 6144)) (codes "LUI(01000020,4,10,6144)")
  pub auipc : Reads (Does 0x01000020 4 (Auipc 10 1)) (codes "AUIPC(01000020,4,10,1)")
  pub fence : Reads (Does 0x01000020 4 (Fence 0 0 0)) (codes "FENCE(01000020,4)")
  pub ecall : Reads (Does 0x01000010 4 Ecall) (codes "ECALL(01000010,4)")
  pub ebreak : Reads (Does 0x01000010 2 Ebreak) (codes "EBREAK(01000010,2)")
