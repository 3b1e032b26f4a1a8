-- What an INQUIRY lends to be read, and whether a packet drive answers it itself (RULES 4 and 7).
use Rattle.std.specs.Prelude.{Bool, ◌&&◌, ◌||◌, not, List, ℕ, eqb}
use Rattle.port.specs.declared.Ports.{Ports}
use Rattle.packet.specs.Packet.{packet_drive}
use Rattle.inquiry_fields.specs.Fields.{evpd, cmddt, page_code}

-- The command bytes; the IDENTIFY block, or no bytes where the drive gave none; its signature; the translator's texts; the drive's
-- own reply to this command; the target ports that page 83h is to tell, and the address of the SAS one.
pub record Request : Type 0 where
  pub command : List ℕ
  pub block : List ℕ
  pub signature : List ℕ
  pub texts : List ℕ
  pub reply : List ℕ
  pub ports : Ports
  pub address : List ℕ

abbrev pub request : List ℕ → List ℕ → List ℕ → List ℕ → List ℕ → Ports → List ℕ → Request
request command block signature texts reply ports address =
    record {
      command = command;
      block = block;
      signature = signature;
      texts = texts;
      reply = reply;
      ports = ports;
      address = address;
    }

abbrev pub is_packet : Request → Bool
is_packet q = packet_drive q.signature

-- Of a packet drive only pages 00h and 89h are made here, asked with EVPD one and CMDDT zero; to all else its own reply is shown.
abbrev pub passes_through : Bool → List ℕ → Bool
passes_through packet command =
    packet && not (evpd command && not (cmddt command) && (eqb (page_code command) 0x00 || eqb (page_code command) 0x89))
