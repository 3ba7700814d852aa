mod TextLaws
mod LefLaws
mod VerilogLaws
