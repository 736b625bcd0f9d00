mod AskedColumns
